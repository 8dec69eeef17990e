-- Votes add no node.
use Rattle.std.proofs.Common.{◌≡◌, length}
use Rattle.bench.proofs.head.vote_all.Given as goal

abbrev pub invariant-loop-place : goal.invariant-loop-place
invariant-loop-place l = length l.array.nodes ≡ 1024
