-- Indices of validators that there is room for.
use Rattle.std.specs.Prelude.{ℕ, ◌<◌, List, length, slice_index}

-- all indices are less than a number
abbrev pub AllBelow : ℕ → List ℕ → Type 0
AllBelow places indices = (k : ℕ) → k < length indices → slice_index indices k < places
