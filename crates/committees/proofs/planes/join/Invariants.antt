use Rattle.std.proofs.Common.{◌≡◌, ℕ, ◌+◌, ◌<◌, slice_index}
use Rattle.committees.specs.inside.Planes.{with_above}
use Rattle.committees.proofs.planes.join.Given as goal

abbrev pub invariant-loop-i : goal.invariant-loop-i
invariant-loop-i l = (k : ℕ) → k < l.i → slice_index l.list k ≡ with_above (slice_index l.low k) (with_above (slice_index l.middle (2048 + k)) (slice_index l.high k))
