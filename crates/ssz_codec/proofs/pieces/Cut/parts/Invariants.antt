use Rattle.std.proofs.Common.{ℕ, ◌+◌, ◌<◌, ◌≤◌, length, get_or}
use Rattle.ssz_codec.proofs.pieces.Cut.parts.Given as goal

-- the offsets so far
abbrev pub invariant-loop-k : goal.invariant-loop-k
invariant-loop-k l = record {
  inside : (j : ℕ) → j < l.k → get_or l.offsets j 0 ≤ length l.whole;
  ordered : (j : ℕ) → j < l.k → get_or l.offsets j 0 ≤ get_or l.offsets (j + 1) (length l.whole);
}
