use Rattle.std.proofs.Common.{◌≡◌, ℕ, ◌+◌, ◌^◌, ◌<◌, ◌≤◌, slice_index}
use Rattle.committees.specs.inside.Planes.{with_above}
use Rattle.committees.proofs.planes.split.Given as goal

abbrev pub invariant-loop-i : goal.invariant-loop-i
invariant-loop-i l = record {
  greatest : (k : ℕ) → k < l.i → slice_index l.list k ≤ l.greatest;
  bytes : (k : ℕ) → k < l.i → slice_index l.list k < 2 ^ 24
      → with_above (slice_index l.low k) (with_above (slice_index l.middle (2048 + k)) (slice_index l.high k)) ≡ slice_index l.list k;
}
