use Rattle.std.proofs.Common.{◌≡◌, drop}
use Rattle.spec_state.specs.Accessors.{get_active_validator_indices}
use Rattle.forensics.specs.inside.ActiveLists.{active_from}
use Rattle.forensics.proofs.active_lists.are_active.Given as goal

abbrev pub invariant-loop-index : goal.invariant-loop-index
invariant-loop-index l =
    (drop l.place l.firsts ≡ active_from l.first l.index-iterator.count l.index-iterator.iter → l.firsts ≡ get_active_validator_indices l.state l.first)
    × (drop l.other l.seconds ≡ active_from l.second l.index-iterator.count l.index-iterator.iter → l.seconds ≡ get_active_validator_indices l.state l.second)
