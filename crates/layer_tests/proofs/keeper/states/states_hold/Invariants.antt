use Rattle.std.proofs.Common.{◌≡◌, length}
use Rattle.layer_tests.proofs.keeper.states.states_hold.Given as goal

abbrev pub invariant-loop-round : goal.invariant-loop-round
invariant-loop-round g l = length l.keeper.blocks ≡ 54
