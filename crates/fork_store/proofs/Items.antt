-- Reading an item of a list, or another value where there is none.
use Rattle.std.proofs.Common.{◌≡◌, ℕ, zero, suc, ◌<◌, ◌≤◌, List, [], ◌∷◌, length, get_or, Some, None, slice_get, sym, arith}
use Rattle.std.proofs.lemmas.List.{get_or_past}
use Rattle.std.proofs.lemmas.Option.{get_or_from_slice_get}

pub past : {A : Type 0} (xs : List A) (i : ℕ) → None ≡ slice_get xs i → length xs ≤ i
past [] i e = omega arith
past (x ∷ xs) zero e = absurd cc
past (x ∷ xs) (suc i) e = let h : length xs ≤ i = past xs i e in omega (arith, h)

pub no_place : {A : Type 0} (xs : List A) (index : ℕ) → index < length xs → None ≡ slice_get xs index → ⊥
no_place xs index inside gone = let over : length xs ≤ index = past xs index gone in absurd (omega (arith, inside, over))

pub read_some : {A : Type 0} (xs : List A) (i : ℕ) (x d : A) → Some x ≡ slice_get xs i → x ≡ get_or xs i d
read_some xs i x d e = sym (get_or_from_slice_get xs i x d (sym e))

pub read_none : {A : Type 0} (xs : List A) (i : ℕ) (d : A) → None ≡ slice_get xs i → d ≡ get_or xs i d
read_none xs i d e = sym (get_or_past xs i d (past xs i e))

pub ruleset reading = (read_some, read_none)
