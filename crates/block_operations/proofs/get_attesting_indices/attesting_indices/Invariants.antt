use Rattle.std.proofs.Common.{◌≡◌, ◌++◌, drop}
use Rattle.spec_state.specs.Accessors.{members_with_bits}
use Rattle.block_operations.proofs.get_attesting_indices.attesting_indices.Given as goal

abbrev pub invariant-loop-i : goal.invariant-loop-i
invariant-loop-i l = l.members.items ++ members_with_bits (drop l.i l.committee) (drop l.i l.bits) ≡ members_with_bits l.committee l.bits
