use Rattle.std.proofs.Common.{◌≡◌, IfOk, subst}
use Rattle.forensics.specs.inside.Carriers.{Attested}
use Rattle.forensics.proofs.Published.{attested_is}
use Rattle.forensics.proofs.attesters.kept.Goals as goal

pub returns : goal.returns
returns c = subst (λ (x : Attested). IfOk c.new.result (λ k. k ≡ x)) (attested_is c.args.state.now _ c.args.attestation.now c.preset-preset.ensures.preset c.committees_at-committees.ensures c.requires.processed.index) c.new.ensures
