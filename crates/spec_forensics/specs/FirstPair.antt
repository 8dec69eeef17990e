-- The first pair of a list that a test refuses: its later item is the least that the test names with an earlier one, and its
-- earlier item the least such one. All pairs are looked at.
use Rattle.std.specs.Prelude.{Bool, List, [], ◌∷◌, ◌++◌, Option, Some, None}
use Rattle.std.specs.List.{find}

-- an item with an earlier one, if there is such an earlier one, and else what comes of later items
unfoldable pub pair_or : {A : Type 0} → Option A → A → Option (A × A) → Option (A × A)
pair_or (Some earlier) item later = Some (earlier, item)
pair_or None item later = later

-- the first pair of items of which the later one stands behind earlier ones
unfoldable pub first_pair : {A : Type 0} → (A → A → Bool) → List A → List A → Option (A × A)
first_pair test earlier [] = None
first_pair test earlier (item ∷ later) = pair_or (find (λ e. test e item) earlier) item (first_pair test (earlier ++ item ∷ []) later)
