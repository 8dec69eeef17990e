-- What is among the items of a list.
use Rattle.std.proofs.Common.{◌≡◌, ◌∙◌, ◌⊎◌, inl, inr, zero, suc, Bool, true, false, cond, List, [], ◌∷◌, ◌++◌, map, reverse, refl, sym, ap, subst, arith}
use Rattle.std.specs.List.{Contains, filter, flat_map}
use Rattle.std.proofs.lemmas.Bool.{false≢true}
use Rattle.std.proofs.lemmas.List.{reverse-append}
use Rattle.std.proofs.lemmas.List.Elements.{Contains-append_left, Contains-append_right, Contains-append_cases}
use Rattle.ffg_law.specs.Links.{IsOneOf}

pub first_of : {A : Type 0} (x : A) (xs : List A) → Contains (x ∷ xs) x
first_of x xs = (0, omega arith, refl)

pub later_of : {A : Type 0} (y : A) (xs : List A) (x : A) → Contains xs x → Contains (y ∷ xs) x
later_of y xs x c = Contains-append_right (y ∷ []) xs x c

pub one_of : {A : Type 0} (xs : List A) (x : A) → Contains xs x → IsOneOf x xs
one_of [] x (k, less, is) = absurd (omega arith)
one_of (y ∷ ys) x (zero, less, is) = inl is
one_of (y ∷ ys) x (suc k, less, is) = inr (one_of ys x (k, omega arith, is))

pub of_one : {A : Type 0} (xs : List A) (x : A) → IsOneOf x xs → Contains xs x
of_one [] x one = absurd one
of_one (y ∷ ys) x (inl is) = (0, omega arith, is)
of_one (y ∷ ys) x (inr later) = later_of y ys x (of_one ys x later)

-- an item is the first one or a later one
pub first_or_later : {A : Type 0} (y : A) (ys : List A) (x : A) → Contains (y ∷ ys) x → (y ≡ x) ⊎ Contains ys x
first_or_later y ys x c = elim (one_of (y ∷ ys) x c) [ inl is ↦ inl is | inr later ↦ inr (of_one ys x later) ]

pub none_of_none : {A : Type 0} (x : A) → Contains [] x → ⊥
none_of_none x c = one_of [] x c

pub image_of : {A B : Type 0} (f : A → B) (xs : List A) (x : A) → Contains xs x → Contains (map f xs) (f x)
image_of f [] x c = absurd (none_of_none x c)
image_of f (y ∷ ys) x c = elim (first_or_later y ys x c) [ inl is ↦ of_one (map f (y ∷ ys)) (f x) (inl (ap f is)) | inr later ↦ later_of (f y) (map f ys) (f x) (image_of f ys x later) ]

pub of_reverse : {A : Type 0} (xs : List A) (x : A) → Contains (reverse xs) x → Contains xs x
of_reverse [] x c = c
of_reverse (y ∷ ys) x c = elim (Contains-append_cases (reverse ys) (y ∷ []) x (subst (λ zs. Contains zs x) (reverse-append (y ∷ []) ys) c)) [
  | inl before ↦ later_of y ys x (of_reverse ys x before)
  | inr here ↦ of_one (y ∷ ys) x (elim (one_of (y ∷ []) x here) [ inl is ↦ inl is | inr none ↦ absurd none ])
]

pub in_reverse : {A : Type 0} (xs : List A) (x : A) → Contains xs x → Contains (reverse xs) x
in_reverse [] x c = c
in_reverse (y ∷ ys) x c = subst (λ zs. Contains zs x) (sym (reverse-append (y ∷ []) ys)) (elim (first_or_later y ys x c) [
  | inl is ↦ Contains-append_right (reverse ys) (y ∷ []) x (of_one (y ∷ []) x (inl is))
  | inr later ↦ Contains-append_left (reverse ys) (y ∷ []) x (in_reverse ys x later)
])

-- ---- the same by recursion

pub in_first : {A : Type 0} (x : A) (xs ys : List A) → IsOneOf x xs → IsOneOf x (xs ++ ys)
in_first x [] ys h = absurd h
in_first x (z ∷ xs) ys (inl e) = inl e
in_first x (z ∷ xs) ys (inr h) = inr (in_first x xs ys h)

pub in_second : {A : Type 0} (x : A) (xs ys : List A) → IsOneOf x ys → IsOneOf x (xs ++ ys)
in_second x [] ys h = h
in_second x (z ∷ xs) ys h = inr (in_second x xs ys h)

pub in_map : {A B : Type 0} (f : A → B) (x : A) (xs : List A) → IsOneOf x xs → IsOneOf (f x) (map f xs)
in_map f x [] h = absurd h
in_map f x (y ∷ ys) (inl e) = inl (ap f e)
in_map f x (y ∷ ys) (inr h) = inr (in_map f x ys h)

kept_either : {A : Type 0} (p : Bool) (x y : A) (ys : List A) → (y ≡ x) ⊎ IsOneOf x ys → ((y ≡ x) → p ≡ true) → IsOneOf x (cond p (y ∷ ys) ys)
kept_either true x y ys h passes = h
kept_either false x y ys (inl e) passes = absurd (false≢true (passes e))
kept_either false x y ys (inr h) passes = h

pub in_filter : {A : Type 0} (p : A → Bool) (x : A) (xs : List A) → p x ≡ true → IsOneOf x xs → IsOneOf x (filter p xs)
in_filter p x [] passes h = absurd h
in_filter p x (y ∷ ys) passes (inl e) = kept_either (p y) x y (filter p ys) (inl e) (λ same. ap p same ∙ passes)
in_filter p x (y ∷ ys) passes (inr h) = kept_either (p y) x y (filter p ys) (inr (in_filter p x ys passes h)) (λ same. ap p same ∙ passes)

pub in_flat_map : {A B : Type 0} (f : A → List B) (x : A) (y : B) (xs : List A) → IsOneOf x xs → IsOneOf y (f x) → IsOneOf y (flat_map f xs)
in_flat_map f x y [] h here = absurd h
in_flat_map f x y (z ∷ zs) (inl e) here = in_first y (f z) (flat_map f zs) (subst (λ k. IsOneOf y (f k)) (sym e) here)
in_flat_map f x y (z ∷ zs) (inr h) here = in_second y (f z) (flat_map f zs) (in_flat_map f x y zs h here)
