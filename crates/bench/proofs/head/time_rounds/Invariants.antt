-- Rounds add no node.
use Rattle.std.proofs.Common.{◌≡◌, length}
use Rattle.bench.proofs.head.time_rounds.Given as goal

abbrev pub invariant-loop-round : goal.invariant-loop-round
invariant-loop-round g l = length l.array.nodes ≡ 1024
