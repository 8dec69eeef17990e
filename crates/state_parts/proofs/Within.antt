-- A list whose values are all within a codec's limits, and a change of it.
use Rattle.std.proofs.Common.{◌≡◌, ℕ, zero, suc, ◌+◌, ◌<◌, ◌≤◌, List, [], ◌∷◌, ◌++◌, length, take, get_or, slice_get, slice_set, Some, Result, Ok, Err, sym, ap, ◌∙◌, subst}
use Rattle.std.specs.List.{AllByRecursion}
use Rattle.bc_words.specs.Outcome.{Becomes}
use Rattle.bc_words.specs.declared.stop.NoMemory.{NoMemory}
use Rattle.shared_tree.specs.Lists.{Limited}
use Rattle.tree_nodes.specs.Changes.{changed}
use Rattle.std.proofs.lemmas.List.{take_more, take_all}
use Rattle.std.proofs.lemmas.Option.{slice_get_within, get_or_from_slice_get}

pub all_push : {A : Type 0} (P : A → Type 0) (xs : List A) (x : A) → AllByRecursion P xs → P x → AllByRecursion P (xs ++ x ∷ [])
all_push P [] x all is = (is, tt)
all_push P (y ∷ ys) x all is = (all.0, all_push P ys x all.1 is)

pub all_set : {A : Type 0} (P : A → Type 0) (xs : List A) (i : ℕ) (x : A) → AllByRecursion P xs → P x → AllByRecursion P (slice_set xs i x)
all_set P [] i x all is = all
all_set P (y ∷ ys) zero x all is = (is, all.1)
all_set P (y ∷ ys) (suc i) x all is = (all.0, all_set P ys i x all.1 is)

-- the values of changes that are made
all_changed : {A : Type 0} (P : A → Type 0) (xs : List A) (changes : List (ℕ × A)) → AllByRecursion P xs → AllByRecursion (λ (c : ℕ × A). P c.1) changes → AllByRecursion P (changed xs changes)
unfolding changed
all_changed P xs [] all are = all
all_changed P xs (c ∷ cs) all are = all_set P (changed xs cs) c.0 c.1 (all_changed P xs cs all are.1) are.0

-- a list that changes were made in, or that is as before
pub all_become : {U A : Type 0} (P : A → Type 0) (result : Result U NoMemory) (old new : Limited A) (changes : List (ℕ × A)) → Becomes result old new (record old { items = changed old.items changes })
    → AllByRecursion P old.items → AllByRecursion (λ (c : ℕ × A). P c.1) changes → AllByRecursion P new.items
all_become P (Ok x) old new changes is all are = subst (λ (list : Limited _). AllByRecursion P list.items) (sym is) (all_changed P old.items changes all are)
all_become P (Err stop) old new changes is all are = subst (λ (list : Limited _). AllByRecursion P list.items) (sym is) all

pub all_none_taken : {A : Type 0} (P : A → Type 0) (xs : List A) → AllByRecursion P (take 0 xs)
all_none_taken P [] = tt
all_none_taken P (x ∷ xs) = tt

pub all_taken_more : {A : Type 0} (P : A → Type 0) (xs : List A) (i : ℕ) (x : A) → i < length xs → x ≡ get_or xs i x → AllByRecursion P (take i xs) → P x → AllByRecursion P (take (i + 1) xs)
all_taken_more P xs i x less at all is = subst (AllByRecursion P) (ap (λ y. take i xs ++ y ∷ []) at ∙ sym (take_more xs i x less)) (all_push P (take i xs) x all is)

pub all_taken_next : {A : Type 0} (P : A → Type 0) (xs : List A) (i : ℕ) (d : A) → i < length xs → AllByRecursion P (take i xs) → P (get_or xs i d) → AllByRecursion P (take (i + 1) xs)
all_taken_next P xs i d less all is = subst (AllByRecursion P) (sym (take_more xs i d less)) (all_push P (take i xs) (get_or xs i d) all is)

pub all_taken : {A : Type 0} (P : A → Type 0) (xs : List A) (n : ℕ) → length xs ≤ n → AllByRecursion P (take n xs) → AllByRecursion P xs
all_taken P xs n over all = subst (AllByRecursion P) (take_all n xs over) all

-- one more of a list's values was copied
pub copied_more : {A : Type 0} (xs ys zs : List A) (i : ℕ) (v x : A) → ys ≡ take i xs → Some v ≡ slice_get xs i → x ≡ v → zs ≡ ys ++ x ∷ [] → zs ≡ take (i + 1) xs
copied_more xs ys zs i v x so_far at copy more =
    let is = sym at in
    more ∙ ap (λ y. ys ++ y ∷ []) (copy ∙ sym (get_or_from_slice_get xs i v v is)) ∙ ap (λ front. front ++ get_or xs i v ∷ []) so_far ∙ sym (take_more xs i v (slice_get_within xs i v is))

-- one more place of two lists is the same
pub same_more : {A : Type 0} (xs ys : List A) (i : ℕ) (v x : A) → take i xs ≡ take i ys → Some v ≡ slice_get xs i → i < length ys → x ≡ get_or ys i x → v ≡ x → take (i + 1) xs ≡ take (i + 1) ys
same_more xs ys i v x so_far at less there is =
    let inside = slice_get_within xs i v (sym at) in
    let here : get_or xs i v ≡ get_or ys i x = get_or_from_slice_get xs i v v (sym at) ∙ is ∙ there in
    take_more xs i v inside ∙ ap (λ y. take i xs ++ y ∷ []) here ∙ ap (λ front. front ++ get_or ys i x ∷ []) so_far ∙ sym (take_more ys i x less)

-- all places of them
pub all_same : {A : Type 0} (xs ys : List A) (n : ℕ) → length xs ≡ length ys → length ys ≤ n → take n xs ≡ take n ys → xs ≡ ys
all_same xs ys n even over same = sym (take_all n xs (subst (λ k. k ≤ n) (sym even) over)) ∙ same ∙ take_all n ys over

-- a list has these values, all of which are
pub all_of_list : {A : Type 0} (P : A → Type 0) (list : Limited A) (limit : ℕ) (xs ys : List A) → list ≡ record { limit = limit; items = xs } → ys ≡ xs → AllByRecursion P ys → AllByRecursion P list.items
all_of_list P list limit xs ys e h all = subst (AllByRecursion P) (sym (ap (λ l. l.items) e)) (subst (AllByRecursion P) h all)
