use Rattle.std.proofs.Common.{◌≡◌, false, take}
use Rattle.std.specs.List.{list_any}
use Rattle.beacon_types.specs.declared.attester_slashing.AttesterSlashing.{AttesterSlashing}
use Rattle.spec_fork_choice.specs.SameBlock.{same_attester_slashing}
use Rattle.forensics.proofs.slashings.is_listed.Given as goal

abbrev pub invariant-loop-other : goal.invariant-loop-other
invariant-loop-other l = list_any (λ (other : AttesterSlashing). same_attester_slashing other l.operation) (take l.other-index l.operations) ≡ false
