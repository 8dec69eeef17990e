-- Sets of indices, as lists in ascending order.
use Rattle.std.specs.Prelude.{ℕ, List, [], ◌∷◌, nat_lt, ◌==◌, if◌then◌else◌}

-- the set with one more
unfoldable pub with_index : List ℕ → ℕ → List ℕ
with_index [] index = index ∷ []
with_index (first ∷ others) index =
    if nat_lt index first then index ∷ first ∷ others
    else if first == index then first ∷ others
    else first ∷ with_index others index
