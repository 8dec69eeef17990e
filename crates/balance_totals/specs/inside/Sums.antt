-- A sum that is given up where it doesn't fit.
use Rattle.std.specs.Prelude.{◌≡◌, ℕ, Option, Some, None}
use Rattle.bc_words.specs.Outcome.{done, checked_add}

-- a sum with one more summand, where both are there
abbrev pub IsNextSum : Option ℕ → ℕ → Option ℕ → Type 0
IsNextSum (Some sum) summand (Some next) = checked_add sum summand ≡ done next
IsNextSum (Some sum) summand None = Unit {0}
IsNextSum None summand next = next ≡ None
