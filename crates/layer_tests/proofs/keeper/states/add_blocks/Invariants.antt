use Rattle.std.proofs.Common.{◌≡◌, length}
use Rattle.layer_tests.proofs.keeper.states.add_blocks.Given as goal

abbrev pub invariant-loop-number : goal.invariant-loop-number
invariant-loop-number g l = length l.keeper.blocks ≡ l.number
