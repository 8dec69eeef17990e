-- The items of a list from a place on: what a loop over places has still to go through.
use Rattle.std.proofs.Common.{◌≡◌, ℕ, zero, suc, ◌+◌, ◌≤◌, List, [], ◌∷◌, length, drop, Some, None, sym, ap, subst, ◌∙◌, arith, slice_get}
use Rattle.std.specs.List.{AllByRecursion}
use Rattle.std.proofs.lemmas.List.{drop_all}

pub drop_at_item : {A : Type 0} (xs : List A) (i : ℕ) (x : A) → Some x ≡ slice_get xs i → drop i xs ≡ x ∷ drop (i + 1) xs
drop_at_item [] i x e = absurd cc
drop_at_item (y ∷ xs) zero x e = let same : y ≡ x = cc in ap (λ z. z ∷ xs) same
drop_at_item (y ∷ xs) (suc i) x e = drop_at_item xs i x e ∙ ap (λ n. x ∷ drop n (y ∷ xs)) (let s : suc (i + 1) ≡ suc i + 1 = omega arith in s)

pub past : {A : Type 0} (xs : List A) (i : ℕ) → None ≡ slice_get xs i → length xs ≤ i
past [] i e = omega arith
past (y ∷ xs) zero e = absurd cc
past (y ∷ xs) (suc i) e = let h = past xs i e in omega arith

pub drop_at_nothing : {A : Type 0} (xs : List A) (i : ℕ) → None ≡ slice_get xs i → drop i xs ≡ drop (i + 1) xs
drop_at_nothing xs i e =
    let over = past xs i e in
    drop_all i xs over ∙ sym (drop_all (i + 1) xs (omega arith))

pub holds_at : {A : Type 0} (P : A → Type 0) (xs : List A) (i : ℕ) (x : A) → AllByRecursion P xs → Some x ≡ slice_get xs i → P x
holds_at P [] i x all e = absurd cc
holds_at P (y ∷ xs) zero x all e = let same : y ≡ x = cc in subst P same all.0
holds_at P (y ∷ xs) (suc i) x all e = holds_at P xs i x all.1 e
