-- Changes of many items of a list.
use Rattle.std.specs.Prelude.{ℕ, suc, ◌<◌, ◌≤◌, List, [], ◌∷◌, slice_set}

-- changes of a list of so many items: the places are below the length, ascending and distinct, from a lowest one on
abbrev pub AreChanges : {A : Type 0} → ℕ → ℕ → List (ℕ × A) → Type 0
AreChanges lowest len [] = Unit {0}
AreChanges lowest len (change ∷ changes) = (lowest ≤ change.0) × (change.0 < len) × AreChanges (suc change.0) len changes

-- the items with each change made
unfoldable pub changed : {A : Type 0} → List A → List (ℕ × A) → List A
changed items [] = items
changed items (change ∷ changes) = slice_set (changed items changes) change.0 change.1
