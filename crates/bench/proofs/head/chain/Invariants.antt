-- The chain so far.
use Rattle.std.proofs.Common.{◌≡◌, ◌+◌, length}
use Rattle.block_array.specs.PlainArray.{slot_at}
use Rattle.bench.proofs.head.chain.Given as goal

abbrev pub invariant-loop-parent : goal.invariant-loop-parent
invariant-loop-parent l = (length l.array.nodes ≡ l.parent + 1) × (slot_at l.array.nodes l.parent ≡ l.parent)
