-- Changes made one after another, from the last one on.
use Rattle.std.proofs.Common.{◌≡◌, ℕ, zero, suc, ◌<◌, List, [], ◌∷◌, ◌++◌, length, refl, sym, ap, ◌∙◌, arith}
use Rattle.std.specs.Prelude.{slice_get, slice_set, Some}
use Rattle.std.proofs.lemmas.List.{length-set}
use Rattle.tree_nodes.specs.Changes.{AreChanges, changed}

pub changed_last : {A : Type 0} (items : List A) (changes : List (ℕ × A)) (change : ℕ × A) → changed items (changes ++ change ∷ []) ≡ changed (slice_set items change.0 change.1) changes
unfolding changed
changed_last items [] change = refl
changed_last items (first ∷ changes) change = ap (λ (xs : List _). slice_set xs first.0 first.1) (changed_last items changes change)

pub changed_none : {A : Type 0} (items : List A) (changes : List (ℕ × A)) → length changes ≡ 0 → changed items changes ≡ items
unfolding changed
changed_none items [] h = refl
changed_none items (c ∷ cs) h = absurd (omega arith)

pub length_changed : {A : Type 0} (items : List A) (changes : List (ℕ × A)) → length (changed items changes) ≡ length items
unfolding changed
length_changed items [] = refl
length_changed items (c ∷ cs) = length-set (changed items cs) c.0 c.1 ∙ length_changed items cs

module _ {A : Type 0} where
  pub get_same : (xs : List A) (i : ℕ) (v : A) → i < length xs → slice_get (slice_set xs i v) i ≡ Some v
  get_same [] i v h = absurd (omega arith)
  get_same (x ∷ xs) zero v h = refl
  get_same (x ∷ xs) (suc i) v h = get_same xs i v (omega arith)

  get_other : (xs : List A) (i j : ℕ) (v : A) → i < j → slice_get (slice_set xs i v) j ≡ slice_get xs j
  get_other [] zero j v h = refl
  get_other [] (suc i) j v h = refl
  get_other (x ∷ xs) zero zero v h = absurd (omega arith)
  get_other (x ∷ xs) zero (suc j) v h = refl
  get_other (x ∷ xs) (suc i) zero v h = absurd (omega arith)
  get_other (x ∷ xs) (suc i) (suc j) v h = get_other xs i j v (omega arith)

  set_swap : (xs : List A) (i j : ℕ) (v w : A) → i < j → slice_set (slice_set xs i v) j w ≡ slice_set (slice_set xs j w) i v
  set_swap [] zero zero v w h = refl
  set_swap [] zero (suc j) v w h = refl
  set_swap [] (suc i) zero v w h = refl
  set_swap [] (suc i) (suc j) v w h = refl
  set_swap (x ∷ xs) zero zero v w h = absurd (omega arith)
  set_swap (x ∷ xs) zero (suc j) v w h = refl
  set_swap (x ∷ xs) (suc i) zero v w h = absurd (omega arith)
  set_swap (x ∷ xs) (suc i) (suc j) v w h = ap (λ (r : List A). x ∷ r) (set_swap xs i j v w (omega arith))

  changed_over : (xs : List A) (low k : ℕ) (cs : List (ℕ × A)) (v : A) → AreChanges low k cs → changed (slice_set xs k v) cs ≡ slice_set (changed xs cs) k v
  unfolding changed
  changed_over xs low k [] v h = refl
  changed_over xs low k (c ∷ cs) v h = ap (λ (l : List A). slice_set l c.0 c.1) (changed_over xs (suc c.0) k cs v h.2) ∙ sym (set_swap (changed xs cs) c.0 k c.1 v h.1)

  -- a change behind all others, whose place is the highest
  pub changed_push : (xs : List A) (low k : ℕ) (cs : List (ℕ × A)) (v : A) → AreChanges low k cs → changed xs (cs ++ (k, v) ∷ []) ≡ slice_set (changed xs cs) k v
  changed_push xs low k cs v h = changed_last xs cs (k, v) ∙ changed_over xs low k cs v h

  -- changes before a place leave what stands there
  pub untouched : (xs : List A) (low k : ℕ) (cs : List (ℕ × A)) → AreChanges low k cs → slice_get (changed xs cs) k ≡ slice_get xs k
  unfolding changed
  untouched xs low k [] h = refl
  untouched xs low k (c ∷ cs) h = get_other (changed xs cs) c.0 k c.1 h.1 ∙ untouched xs (suc c.0) k cs h.2
