-- What is left of a list from a place on, as a loop over the list has it beside the place.
use Rattle.std.proofs.Common.{◌≡◌, ℕ, zero, suc, ◌+◌, ◌≤◌, List, [], ◌∷◌, length, drop, Some, slice_get, slice_set, refl, sym, ap, ◌∙◌, arith}

module _ {A : Type 0} where
  -- the first of what is left stands at the place
  pub first_left : (items : List A) (i : ℕ) (x : A) (left : List A) → x ∷ left ≡ drop i items → slice_get items i ≡ Some x
  first_left [] zero x left e = absurd cc
  first_left [] (suc i) x left e = absurd cc
  first_left (y ∷ items) zero x left e = let same : y ≡ x = cc in ap (λ z. Some z) same
  first_left (y ∷ items) (suc i) x left e = first_left items i x left e

  -- the others are left from the next place on
  pub others_left : (items : List A) (i : ℕ) (x : A) (left : List A) → x ∷ left ≡ drop i items → left ≡ drop (i + 1) items
  others_left [] zero x left e = absurd cc
  others_left [] (suc i) x left e = absurd cc
  others_left (y ∷ items) zero x left e = let same : left ≡ items = cc in same
  others_left (y ∷ items) (suc i) x left e =
      let next : suc (i + 1) ≡ suc i + 1 = omega arith in
      others_left items i x left e ∙ ap (λ n. drop n (y ∷ items)) next

  -- where nothing is left the place is past the end
  pub nothing_left : (items : List A) (i : ℕ) → [] ≡ drop i items → length items ≤ i
  nothing_left [] i e = omega arith
  nothing_left (y ∷ items) zero e = absurd cc
  nothing_left (y ∷ items) (suc i) e = let rest = nothing_left items i e in omega (arith, rest)

  -- a change at a place leaves what is behind it
  pub set_behind : (items : List A) (i : ℕ) (x : A) → drop (i + 1) (slice_set items i x) ≡ drop (i + 1) items
  set_behind [] i x = refl
  set_behind (y ∷ items) zero x = refl
  set_behind (y ∷ items) (suc i) x =
      let next : suc i + 1 ≡ suc (i + 1) = omega arith in
      ap (λ n. drop n (y ∷ slice_set items i x)) next ∙ (set_behind items i x ∙ ap (λ n. drop n (y ∷ items)) (sym next))
