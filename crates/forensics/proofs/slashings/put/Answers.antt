use Rattle.std.proofs.Common.{◌∙◌, List, sym, ap}
use Rattle.beacon_types.specs.declared.attester_slashing.AttesterSlashing.{AttesterSlashing}
use Rattle.spec_slasher.specs.Operations.{is_listed}
use Rattle.forensics.proofs.Listing.{listed_already, one_behind}
use Rattle.forensics.proofs.slashings.put.Goals as goal

pub returns-then-is_listed : goal.returns-then-is_listed
returns-then-is_listed c = listed_already _ _ (ap (λ (ops : List AttesterSlashing). is_listed ops c.args.operation) (sym c.as_slice.ensures.value) ∙ sym c.is_listed.ensures ∙ c.if-is_listed.true)

pub returns : goal.returns
returns c = one_behind _ _ _ (ap (λ (ops : List AttesterSlashing). is_listed ops c.args.operation) (sym c.as_slice.ensures.value) ∙ sym c.is_listed.ensures ∙ c.if-is_listed.false) c.in_ok-push.ensures.items
