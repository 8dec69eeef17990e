-- The changes from one list to another of the same length, up to a place.
use Rattle.std.specs.Prelude.{◌≡◌, ◌⊎◌, ℕ, List, [], ◌∷◌, ◌++◌, take}
use Rattle.tree_nodes.specs.Changes.{AreChanges, changed}

-- They stand below the place, and make the front of one list that of the other
pub record AreDifferences {A : Type 0} (old new : List A) (i : ℕ) (changes : List (ℕ × A)) : Type 0 where
  pub places : AreChanges 0 i changes
  pub made : take i (changed old changes) ≡ take i new

-- A value that is kept is the same as the one for its place, or that is one change more
abbrev pub IsCompared : {A : Type 0} → A → A → ℕ → List (ℕ × A) → List (ℕ × A) → Type 0
IsCompared kept value i before after = ((kept ≡ value) × (after ≡ before)) ⊎ (after ≡ before ++ (i, value) ∷ [])
