-- Variable parts by their offsets (simple-serialize.md, "Deserialization"): each runs from its offset to the next one,
-- and the last to the end.
use Rattle.std.specs.Prelude.{◌≡◌, ℕ, ◌+◌, ◌-◌, ◌<◌, ◌≤◌, List, length, take, drop}
use Rattle.std.proofs.Common.{get_or}

-- bytes, and where their variable parts begin
pub record Sliced : Type 0 where
  pub whole : List ℕ
  pub offsets : List ℕ

-- the k-th part
abbrev pub part_at : Sliced → ℕ → List ℕ
part_at s k = take (get_or s.offsets (k + 1) (length s.whole) - get_or s.offsets k 0) (drop (get_or s.offsets k 0) s.whole)

-- no offset is past the end, and none is greater than the next one
pub record AreOrdered (s : Sliced) : Type 0 where
  pub inside : (k : ℕ) → k < length s.offsets → get_or s.offsets k 0 ≤ length s.whole
  pub ordered : (k : ℕ) → k < length s.offsets → get_or s.offsets k 0 ≤ get_or s.offsets (k + 1) (length s.whole)

-- and the first part begins where the fixed part ends
pub record AreOffsets (fixed_len : ℕ) (s : Sliced) : Type 0 where
  pub first : get_or s.offsets 0 0 ≡ fixed_len
  pub others : AreOrdered s

abbrev pub sliced : List ℕ → List ℕ → Sliced
sliced whole offsets = record { whole = whole; offsets = offsets }
