-- Items with the places at which they are written.
use Rattle.std.specs.Prelude.{ℕ, suc, List, [], ◌∷◌}

-- each item with its place, where the first one goes to this place and each other one behind the one before
unfoldable pub places : {A : Type 0} → ℕ → List A → List (ℕ × A)
places k [] = []
places k (x ∷ xs) = (k, x) ∷ places (suc k) xs
