use Rattle.std.proofs.Common.{◌≡◌, ◌+◌, length}
use Rattle.block_array.specs.PlainArray.{slot_at}
use Rattle.layer_tests.proofs.votes.chain.Given as goal

abbrev pub invariant-loop-last : goal.invariant-loop-last
invariant-loop-last l = (length l.array.nodes ≡ l.last + 1) × (slot_at l.array.nodes l.last ≡ l.last)
