use Rattle.std.proofs.Common.{◌≡◌, length}
use Rattle.layer_tests.proofs.shuffles.tens.Given as goal

abbrev pub invariant-loop-i : goal.invariant-loop-i
invariant-loop-i l = length l.list.items ≡ l.i
