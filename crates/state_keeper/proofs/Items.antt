-- Items of a list by their places.
use Rattle.std.proofs.Common.{◌≡◌, ℕ, zero, suc, ◌<◌, ◌⊎◌, inl, inr, true, false, ltb, get_or, List, [], ◌∷◌, ◌++◌, length, Option, Some, None, option_map, slice_get, refl, sym, ap, arith}
use Rattle.std.proofs.lemmas.Bool.{ltb-true, ltb-false}
use Rattle.std.proofs.lemmas.Option.{none-some, same_Some, slice_get_read, slice_get_past}

module _ {X : Type 0} where
  -- the item at a place below the length
  pub item_at : (xs : List X) (n : ℕ) → n < length xs → (x : X) × (slice_get xs n ≡ Some x)
  item_at [] n less = absurd (omega arith)
  item_at (x ∷ xs) zero less = (x, refl)
  item_at (x ∷ xs) (suc n) less = item_at xs n (omega arith)

  -- an item stays where more items come
  pub get_append : (xs ys : List X) (n : ℕ) (x : X) → slice_get xs n ≡ Some x → slice_get (xs ++ ys) n ≡ Some x
  get_append [] ys n x there = absurd (none-some x there)
  get_append (y ∷ xs) ys zero x there = there
  get_append (y ∷ xs) ys (suc n) x there = get_append xs ys n x there

  -- and was there before, where its place is
  pub get_before : (xs ys : List X) (n : ℕ) (x : X) → slice_get (xs ++ ys) n ≡ Some x → n < length xs → slice_get xs n ≡ Some x
  get_before [] ys n x there less = absurd (omega arith)
  get_before (y ∷ xs) ys zero x there less = there
  get_before (y ∷ xs) ys (suc n) x there less = get_before xs ys n x there (omega arith)

  pub get_at : (xs : List X) (y : X) (ys : List X) → slice_get (xs ++ y ∷ ys) (length xs) ≡ Some y
  get_at [] y ys = refl
  get_at (x ∷ xs) y ys = get_at xs y ys

  -- an item of a list with one item more is an old one, or that one
  pub get_end : (xs : List X) (y : X) (n : ℕ) (x : X) → slice_get (xs ++ y ∷ []) n ≡ Some x → (slice_get xs n ≡ Some x) ⊎ ((n ≡ length xs) × (y ≡ x))
  get_end [] y zero x there = inr (refl, same_Some y x there)
  get_end [] y (suc n) x there = absurd (none-some x there)
  get_end (z ∷ xs) y zero x there = inl there
  get_end (z ∷ xs) y (suc n) x there = elim (get_end xs y n x there) [
    | inl old ↦ inl old
    | inr new ↦ inr (ap (λ k. suc k) new.0, new.1)
  ]

  -- what a look-up found, and that it found nothing
  pub found : (xs : List X) (n : ℕ) (x : X) → true ≡ ltb n (length xs) → x ≡ get_or xs n x → slice_get xs n ≡ Some x
  found xs n x inside is = slice_get_read xs (length xs) n x refl (ltb-true n (length xs) (sym inside)) is

  pub not_found : (xs : List X) (n : ℕ) → false ≡ ltb n (length xs) → slice_get xs n ≡ None
  not_found xs n past = slice_get_past xs n (ltb-false n (length xs) (sym past))

-- one field of an item
pub mapped : {X Y Z : Type 0} (f : X → Y) (g : Y → Z) (o : Option X) → option_map g (option_map f o) ≡ option_map (λ x. g (f x)) o
mapped f g None = refl
mapped f g (Some x) = refl

-- the item of which a field is known
pub item_of : {X Y : Type 0} (f : X → Y) (o : Option X) (y : Y) → option_map f o ≡ Some y → (x : X) × (o ≡ Some x) × (f x ≡ y)
item_of f None y is = absurd (none-some y is)
item_of f (Some x) y is = (x, refl, same_Some (f x) y is)
