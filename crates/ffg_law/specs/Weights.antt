-- Weights of sets of validators. A list of weights gives each validator, by its index, its weight; a set is a test of
-- indices.
use Rattle.std.specs.Prelude.{ℕ, ◌+◌, ◌*◌, ◌≤◌, Bool, ◌&&◌, List, [], ◌∷◌, sum, nat_eq, if◌then◌else◌}
use Rattle.std.specs.List.{list_any}

-- the weight of a set, of the validators from an index on
unfoldable pub weight_from : (ℕ → Bool) → ℕ → List ℕ → ℕ
weight_from set index [] = 0
weight_from set index (weight ∷ weights) = (if set index then weight else 0) + weight_from set (index + 1) weights

-- the weight of a set
abbrev pub weight_of : List ℕ → (ℕ → Bool) → ℕ
weight_of weights set = weight_from set 0 weights

-- the set that a list of indices names
unfoldable pub among : List ℕ → ℕ → Bool
among indices index = list_any (λ i. nat_eq i index) indices

-- the validators in both sets
abbrev pub both : (ℕ → Bool) → (ℕ → Bool) → ℕ → Bool
both a b index = a index && b index

-- A set has at least two thirds of all weight
abbrev pub IsTwoThirds : List ℕ → (ℕ → Bool) → Type 0
IsTwoThirds weights set = 2 * sum weights ≤ 3 * weight_of weights set

-- A set has at least a third of all weight
abbrev pub IsThird : List ℕ → (ℕ → Bool) → Type 0
IsThird weights set = sum weights ≤ 3 * weight_of weights set

-- Ascending indices from one on, each named once
abbrev pub AscendsFrom : ℕ → List ℕ → Type 0
AscendsFrom low [] = Unit {0}
AscendsFrom low (i ∷ indices) = (low ≤ i) × AscendsFrom (i + 1) indices

-- a list that names each validator of a set once, in order
abbrev pub IsSet : List ℕ → Type 0
IsSet indices = AscendsFrom 0 indices
