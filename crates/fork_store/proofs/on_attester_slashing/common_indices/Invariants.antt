use Rattle.std.proofs.Common.{◌≡◌, take}
use Rattle.spec_blocks.specs.ProcessAttesterSlashing.{in_both}
use Rattle.fork_store.proofs.on_attester_slashing.common_indices.Given as goal

abbrev pub invariant-loop-i : goal.invariant-loop-i
invariant-loop-i l = l.common.items ≡ in_both (take l.i l.first) l.second
