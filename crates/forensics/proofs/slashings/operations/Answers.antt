use Rattle.std.proofs.Common.{◌≡◌, true}
use Rattle.beacon_types.specs.Slashable.{is_slashable_attestation_data}
use Rattle.beacon_types.specs.declared.attester_slashing.AttesterSlashing.{AttesterSlashing}
use Rattle.spec_slasher.specs.Accepts.{IsProcessed, IsTaken}
use Rattle.spec_slasher.proofs.Operations.{all_slashable}
use Rattle.spec_slasher.proofs.Processed.{all_processed}
use Rattle.spec_slasher.proofs.Taken.{all_taken}
use Rattle.forensics.proofs.Listing.{all_listed, only_offenders, all_offenders, of_offences}
use Rattle.forensics.proofs.slashings.operations.Goals as goal

pub returns : goal.returns
returns c =
    let genesis = c.args.book.now.genesis in
    let first = c.args.book.now.first in
    let second = c.args.book.now.second in
    let exact = of_offences (λ l. l.items) c.operations_of.result genesis first second _ _ c.deref.ensures.value c.in_ok-offences.ensures.exact c.operations_of.ensures in
    record {
      exact = exact;
      slashable = all_listed (λ l. l.items) c.operations_of.result (λ (o : AttesterSlashing). is_slashable_attestation_data o.attestation_1.content o.attestation_2.content ≡ true) _ exact (all_slashable genesis first second);
      offenders = only_offenders (λ l. l.items) c.operations_of.result genesis first second exact;
      named = all_offenders (λ l. l.items) c.operations_of.result genesis first second exact;
      processed = all_listed (λ l. l.items) c.operations_of.result IsProcessed _ exact (all_processed genesis first second);
      taken = all_listed (λ l. l.items) c.operations_of.result IsTaken _ exact (all_taken genesis first second);
    }
