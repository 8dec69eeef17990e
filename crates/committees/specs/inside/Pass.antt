-- Words of this crate's own contracts, for a pass that swaps indices with their mirror images. An index and its mirror
-- image add up to sum, and the bit of the later one says whether the two swap.
use Rattle.std.specs.Prelude.{◌≡◌, ℕ, ◌-◌, ◌<◌, ◌≤◌, ◌⊎◌, max, List, slice_index, ◌==◌, if◌then◌else◌}
use Rattle.std.specs.Int.{bit_at}
use Rattle.committees.specs.Shuffling.{bit_in}

-- the later of an index and its mirror image
abbrev pub later : ℕ → ℕ → ℕ
later sum index = max index (sum - index)

-- where an index takes its item from, by a word of bits whose lowest bit is that of the position first
abbrev pub by_word : ℕ → ℕ → ℕ → ℕ → ℕ
by_word word first sum index = if bit_at word (later sum index - first) == 1 then sum - index else index

-- likewise, by the bits of a page
abbrev pub by_source : List ℕ → ℕ → ℕ → ℕ
by_source source sum index = if bit_in source (later sum index) == 1 then sum - index else index

-- The pairs whose later index is from first up to but not last took their items from where take says, and all other
-- indices have their own
pub record Passed (take : ℕ → ℕ) (sum first last : ℕ) (old new : List ℕ) : Type 0 where
  pub inside : (index : ℕ) → first ≤ later sum index → later sum index < last → slice_index new index ≡ slice_index old (take index)
  pub outside : (index : ℕ) → (later sum index < first) ⊎ (last ≤ later sum index) → slice_index new index ≡ slice_index old index
