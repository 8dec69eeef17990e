-- Lists that are made item by item from another list.
use Rattle.std.proofs.Common.{◌≡◌, ℕ, zero, suc, ◌<◌, List, [], ◌∷◌, length, map, slice_index_or, refl, ap₂, arith}

-- a list is the map of another where each item is
pub mapped : {A : Type 0} (f : List A → List ℕ) (ys : List (List ℕ)) (xs : List (List A)) → length ys ≡ length xs → ((k : ℕ) → k < length xs → slice_index_or ys k [] ≡ f (slice_index_or xs k [])) → ys ≡ map f xs
mapped f [] [] same each = refl
mapped f [] (x ∷ xs) same each = absurd (omega arith)
mapped f (y ∷ ys) [] same each = absurd (omega arith)
mapped f (y ∷ ys) (x ∷ xs) same each = ap₂ (λ (a : List ℕ) (b : List (List ℕ)). a ∷ b) (each zero (omega arith)) (mapped f ys xs (omega arith) (λ k less. each (suc k) (omega arith)))
