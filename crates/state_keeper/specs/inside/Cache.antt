-- The cache of states.
use Rattle.std.specs.Prelude.{◌≡◌, ℕ, ◌⊎◌, List, Contains}

module _ {S : Type 0} where
  -- A pair of the cache was among those before, or is the one that was put there
  abbrev pub IsAmong : List (ℕ × S) → ℕ → S → ℕ → S → Type 0
  IsAmong pairs put put_state n state = Contains pairs (n, state) ⊎ ((n ≡ put) × (state ≡ put_state))
