-- Where an item that is put into two lists one behind the other goes.
use Rattle.std.proofs.Common.{◌≡◌, ℕ, zero, suc, ◌+◌, ◌-◌, ◌<◌, ◌≤◌, List, [], ◌∷◌, ◌++◌, length, max, refl, sym, ap, ◌∙◌, arith}
use Rattle.std.specs.Prelude.{slice_set}
use Rattle.std.proofs.lemmas.List.{append-nil}
use Rattle.tree_nodes.specs.inside.Puts.{put_at}

module _ {A : Type 0} where
  pub put_set : (xs : List A) (at : ℕ) (item : A) → at < length xs → put_at xs at item ≡ slice_set xs at item
  unfolding put_at
  put_set [] at item h = absurd (omega arith)
  put_set (x ∷ xs) zero item h = refl
  put_set (x ∷ xs) (suc at) item h = ap (λ (r : List A). x ∷ r) (put_set xs at item (omega arith))

  pub put_push : (xs : List A) (at : ℕ) (item : A) → at ≡ length xs → put_at xs at item ≡ xs ++ item ∷ []
  unfolding put_at
  put_push [] at item h = refl
  put_push (x ∷ xs) zero item h = absurd (omega arith)
  put_push (x ∷ xs) (suc at) item h = ap (λ (r : List A). x ∷ r) (put_push xs at item (omega arith))

  pub put_left : (xs ys : List A) (at : ℕ) (item : A) → (0 < length ys → at < length xs) → put_at (xs ++ ys) at item ≡ put_at xs at item ++ ys
  unfolding put_at
  put_left xs [] at item h = ap (λ (l : List A). put_at l at item) (append-nil xs) ∙ sym (append-nil (put_at xs at item))
  put_left [] (y ∷ ys) at item h = absurd (omega (arith, h (omega arith)))
  put_left (x ∷ xs) (y ∷ ys) zero item h = refl
  put_left (x ∷ xs) (y ∷ ys) (suc at) item h = ap (λ (r : List A). x ∷ r) (put_left xs (y ∷ ys) at item (λ some. omega (arith, h (omega arith))))

  pub put_right : (xs ys : List A) (n at : ℕ) (item : A) → length xs ≡ n → n ≤ at → put_at (xs ++ ys) at item ≡ xs ++ put_at ys (at - n) item
  unfolding put_at
  put_right [] ys n at item e h = ap (λ (k : ℕ). put_at ys k item) (omega arith)
  put_right (x ∷ xs) ys n zero item e h = absurd (omega arith)
  put_right (x ∷ xs) ys n (suc at) item e h = ap (λ (r : List A). x ∷ r) (put_right xs ys (length xs) at item refl (omega arith) ∙ ap (λ (k : ℕ). xs ++ put_at ys k item) (omega arith))

  pub length_put : (xs : List A) (at : ℕ) (item : A) → at ≤ length xs → length (put_at xs at item) ≡ max (length xs) (at + 1)
  unfolding put_at
  length_put [] at item h = omega arith
  length_put (x ∷ xs) zero item h = omega arith
  length_put (x ∷ xs) (suc at) item h = omega (arith, length_put xs at item (omega arith))
