-- One item changed, or one more.
use Rattle.std.specs.Prelude.{◌≡◌, ℕ, zero, suc, ◌+◌, ◌-◌, ◌<◌, ◌≤◌, ◌^◌, List, [], ◌∷◌, ◌++◌, Bool, true, false, slice_set, length, nat_lt, if◌then◌else◌}

-- the items with this one at the place, in the place of the one that is there, or behind the last
unfoldable pub put_at : {A : Type 0} → List A → ℕ → A → List A
put_at [] at item = item ∷ []
put_at (x ∷ xs) zero item = item ∷ xs
put_at (x ∷ xs) (suc at) item = x ∷ put_at xs at item

-- the depth of a tree after an item is put at a place: one more exactly where the place is behind its leaves
pub record Grows (depth at grown : ℕ) : Type 0 where
  pub stays : at < 2 ^ depth → grown ≡ depth
  pub grows : 2 ^ depth ≤ at → grown ≡ depth + 1

-- the changes whose places are before this one
unfoldable pub before : {A : Type 0} → ℕ → List (ℕ × A) → List (ℕ × A)
before from [] = []
before from (change ∷ changes) = if nat_lt change.0 from then change ∷ before from changes else before from changes

-- the items of a tree whose first place is this one, with the changes made whose places are not before it
unfoldable pub changed_in : {A : Type 0} → ℕ → List A → List (ℕ × A) → List A
changed_in from items [] = items
changed_in from items (change ∷ changes) =
    if nat_lt change.0 from then changed_in from items changes
    else slice_set (changed_in from items changes) (change.0 - from) change.1

-- whether the last change is at this place or behind
abbrev pub Reaches : {A : Type 0} → ℕ → List (ℕ × A) → Bool → Type 0
Reaches from changes true =
    (0 < length changes) × ((front : List (ℕ × _)) (last : ℕ × _) → changes ≡ front ++ last ∷ [] → from ≤ last.0)
Reaches from changes false = (front : List (ℕ × _)) (last : ℕ × _) → changes ≡ front ++ last ∷ [] → last.0 < from
