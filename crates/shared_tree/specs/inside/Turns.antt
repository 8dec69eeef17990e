-- Where a walk over a list's numbers stands.
use Rattle.std.specs.Prelude.{◌≡◌, ℕ, List, [], ◌∷◌, ◌++◌, take, Option, Some, None}
use Rattle.std.specs.List.{flat_map}
use Rattle.std.specs.Borrow.{Bor}
use Rattle.shared_tree.specs.declared.four.Four.{Four}

-- the numbers that are left of a chunk, and those of the chunks behind it
abbrev pub behind : List ℕ → List Four → List ℕ
behind rest fours = rest ++ flat_map (λ f. f.numbers) fours

-- so many of them
abbrev pub numbers_left : ℕ → List ℕ → List Four → List ℕ
numbers_left left rest fours = take left (behind rest fours)

-- the first of the numbers with those behind it, or none where there are none
abbrev pub Turns : List ℕ → List Four → Option (ℕ × Bor (List ℕ)) → List Four → Type 0
Turns rest before (Some first) now = behind rest before ≡ first.0 ∷ behind first.1.now now
Turns rest before None now = (behind rest before ≡ []) × (behind rest now ≡ [])
