-- Items of lists. A fact on an item is stated by recursion on the list here, and turned into std's words at the laws.
use Rattle.std.proofs.Common.{◌≡◌, ◌∙◌, ℕ, zero, suc, ◌<◌, ◌≤◌, ◌⊎◌, inl, inr, Bool, true, false, cond, ◌||◌, ◌&&◌, ◌==◌, nat_lt, List, [], ◌∷◌, ◌++◌, map, length, get_or, Option, Some, None, is_some, refl, sym, ap, ap₂, subst, arith}
use Rattle.std.specs.List.{All, Contains, find, filter, flat_map, filter_map, cons_option, list_any}
use Rattle.std.proofs.lemmas.Bool.{lt-ltb, ltb-true, ltb-false, eqb-true, eqb-false, and_parts, false≢true}
use Rattle.std.proofs.lemmas.List.Elements.{All-cons, All-nil, All-contains}
use Rattle.std.proofs.lemmas.Option.{same_Some}
use Rattle.bc_words.specs.Indices.{with_index}
use Rattle.ffg_law.specs.Links.{IsOneOf}
use Rattle.spec_blocks.specs.IsValidIndexedAttestation.{is_strictly_ascending}
use Rattle.spec_slasher.specs.GetIndexedAttestation.{in_order}

-- ---- in std's words

at_place : {A : Type 0} (xs : List A) (x : A) (k : ℕ) → k < length xs → get_or xs k x ≡ x → IsOneOf x xs
at_place [] x k low is = absurd (omega (arith, low))
at_place (y ∷ ys) x zero low is = inl is
at_place (y ∷ ys) x (suc k) low is = inr (at_place ys x k (omega (arith, low)) is)

pub one_of : {A : Type 0} (xs : List A) (x : A) → Contains xs x → IsOneOf x xs
one_of xs x h = at_place xs x h.0 h.1 h.2

pub contained : {A : Type 0} (xs : List A) (x : A) → IsOneOf x xs → Contains xs x
contained [] x h = absurd h
contained (y ∷ ys) x (inl e) = (0, omega arith, e)
contained (y ∷ ys) x (inr h) = let r = contained ys x h in let low = r.1 in (suc r.0, omega (arith, low), r.2)

pub all_are : {A : Type 0} (P : A → Type 0) (xs : List A) → ((x : A) → IsOneOf x xs → P x) → All P xs
all_are P [] each = All-nil P
all_are P (x ∷ xs) each = All-cons P x xs (each x (inl refl)) (all_are P xs (λ y h. each y (inr h)))

pub each_is : {A : Type 0} (P : A → Type 0) (xs : List A) → All P xs → (x : A) → IsOneOf x xs → P x
each_is P xs all x h = All-contains P xs x all (contained xs x h)

-- ---- into and out of lists

pub in_first : {A : Type 0} (x : A) (xs ys : List A) → IsOneOf x xs → IsOneOf x (xs ++ ys)
in_first x [] ys h = absurd h
in_first x (z ∷ xs) ys (inl e) = inl e
in_first x (z ∷ xs) ys (inr h) = inr (in_first x xs ys h)

pub in_second : {A : Type 0} (x : A) (xs ys : List A) → IsOneOf x ys → IsOneOf x (xs ++ ys)
in_second x [] ys h = h
in_second x (z ∷ xs) ys h = inr (in_second x xs ys h)

pub in_map : {A B : Type 0} (f : A → B) (x : A) (xs : List A) → IsOneOf x xs → IsOneOf (f x) (map f xs)
in_map f x [] h = absurd h
in_map f x (y ∷ ys) (inl e) = inl (ap f e)
in_map f x (y ∷ ys) (inr h) = inr (in_map f x ys h)

kept_either : {A : Type 0} (p : Bool) (x y : A) (ys : List A) → (y ≡ x) ⊎ IsOneOf x ys → ((y ≡ x) → p ≡ true) → IsOneOf x (cond p (y ∷ ys) ys)
kept_either true x y ys h passes = h
kept_either false x y ys (inl e) passes = absurd (false≢true (passes e))
kept_either false x y ys (inr h) passes = h

pub in_filter : {A : Type 0} (p : A → Bool) (x : A) (xs : List A) → p x ≡ true → IsOneOf x xs → IsOneOf x (filter p xs)
in_filter p x [] passes h = absurd h
in_filter p x (y ∷ ys) passes (inl e) = kept_either (p y) x y (filter p ys) (inl e) (λ same. ap p same ∙ passes)
in_filter p x (y ∷ ys) passes (inr h) = kept_either (p y) x y (filter p ys) (inr (in_filter p x ys passes h)) (λ same. ap p same ∙ passes)

pub in_flat_map : {A B : Type 0} (f : A → List B) (x : A) (y : B) (xs : List A) → IsOneOf x xs → IsOneOf y (f x) → IsOneOf y (flat_map f xs)
in_flat_map f x y [] h here = absurd h
in_flat_map f x y (z ∷ zs) (inl e) here = in_first y (f z) (flat_map f zs) (subst (λ k. IsOneOf y (f k)) (sym e) here)
in_flat_map f x y (z ∷ zs) (inr h) here = in_second y (f z) (flat_map f zs) (in_flat_map f x y zs h here)

pub of_append : {A : Type 0} (x : A) (xs ys : List A) → IsOneOf x (xs ++ ys) → IsOneOf x xs ⊎ IsOneOf x ys
of_append x [] ys h = inr h
of_append x (z ∷ xs) ys (inl e) = inl (inl e)
of_append x (z ∷ xs) ys (inr h) = elim (of_append x xs ys h) [ inl a ↦ inl (inr a) | inr b ↦ inr b ]

-- what an item was made of
pub record Source {A B : Type 0} (f : A → B) (y : B) (xs : List A) : Type 0 where
  pub at : A
  pub listed : IsOneOf at xs
  pub is : f at ≡ y

pub of_map : {A B : Type 0} (f : A → B) (y : B) (xs : List A) → IsOneOf y (map f xs) → Source f y xs
of_map f y [] h = absurd h
of_map f y (x ∷ xs) (inl e) = record { at = x; listed = inl refl; is = e }
of_map f y (x ∷ xs) (inr h) = let r = of_map f y xs h in record { at = r.at; listed = inr r.listed; is = r.is }

-- the item in whose list it stands
pub record Holder {A B : Type 0} (f : A → List B) (y : B) (xs : List A) : Type 0 where
  pub at : A
  pub listed : IsOneOf at xs
  pub inside : IsOneOf y (f at)

pub of_flat_map : {A B : Type 0} (f : A → List B) (y : B) (xs : List A) → IsOneOf y (flat_map f xs) → Holder f y xs
of_flat_map f y [] h = absurd h
of_flat_map f y (z ∷ zs) h = elim (of_append y (f z) (flat_map f zs) h) [
  | inl here ↦ record { at = z; listed = inl refl; inside = here }
  | inr more ↦ let r = of_flat_map f y zs more in record { at = r.at; listed = inr r.listed; inside = r.inside }
]

kept_of : {A : Type 0} (p : Bool) (x y : A) (ys : List A) → IsOneOf x (cond p (y ∷ ys) ys) → ((p ≡ true) × (y ≡ x)) ⊎ IsOneOf x ys
kept_of true x y ys (inl e) = inl (refl, e)
kept_of true x y ys (inr h) = inr h
kept_of false x y ys h = inr h

pub of_filter : {A : Type 0} (p : A → Bool) (x : A) (xs : List A) → IsOneOf x (filter p xs) → IsOneOf x xs × (p x ≡ true)
of_filter p x [] h = absurd h
of_filter p x (y ∷ ys) h = elim (kept_of (p y) x y (filter p ys) h) [
  | inl here ↦ (inl here.1, ap p (sym here.1) ∙ here.0)
  | inr more ↦ let r = of_filter p x ys more in (inr r.0, r.1)
]

of_cons : {A : Type 0} (o : Option A) (y : A) (ys : List A) → IsOneOf y (cons_option o ys) → (o ≡ Some y) ⊎ IsOneOf y ys
of_cons None y ys h = inr h
of_cons (Some x) y ys (inl e) = inl (ap Some e)
of_cons (Some x) y ys (inr h) = inr h

into_rest : {A : Type 0} (o : Option A) (y : A) (ys : List A) → IsOneOf y ys → IsOneOf y (cons_option o ys)
into_rest None y ys h = h
into_rest (Some x) y ys h = inr h

pub of_filter_map : {A B : Type 0} (f : A → Option B) (y : B) (xs : List A) → IsOneOf y (filter_map f xs) → Source f (Some y) xs
of_filter_map f y [] h = absurd h
of_filter_map f y (x ∷ xs) h = elim (of_cons (f x) y (filter_map f xs) h) [
  | inl e ↦ record { at = x; listed = inl refl; is = e }
  | inr more ↦ let r = of_filter_map f y xs more in record { at = r.at; listed = inr r.listed; is = r.is }
]

pub in_filter_map : {A B : Type 0} (f : A → Option B) (x : A) (y : B) (xs : List A) → IsOneOf x xs → f x ≡ Some y → IsOneOf y (filter_map f xs)
in_filter_map f x y [] h e = absurd h
in_filter_map f x y (z ∷ zs) (inl same) e = subst (λ (o : Option _). IsOneOf y (cons_option o (filter_map f zs))) (sym (ap f same ∙ e)) (inl refl)
in_filter_map f x y (z ∷ zs) (inr h) e = into_rest (f z) y (filter_map f zs) (in_filter_map f x y zs h e)

-- the first that passes
pub record Found {A : Type 0} (p : A → Bool) (xs : List A) : Type 0 where
  pub at : A
  pub is : find p xs ≡ Some at
  pub listed : IsOneOf at xs
  pub passes : p at ≡ true

found_either : {A : Type 0} (b : Bool) (p : A → Bool) (x y : A) (ys : List A) → p y ≡ b → IsOneOf x (y ∷ ys) → p x ≡ true → (IsOneOf x ys → Found p ys) → Found p (y ∷ ys)
found_either true p x y ys is h passes rest = record { at = y; is = ap (λ b. cond b (Some y) (find p ys)) is; listed = inl refl; passes = is }
found_either false p x y ys is (inl e) passes rest = absurd (false≢true (sym is ∙ (ap p e ∙ passes)))
found_either false p x y ys is (inr h) passes rest = let r = rest h in record { at = r.at; is = ap (λ b. cond b (Some y) (find p ys)) is ∙ r.is; listed = inr r.listed; passes = r.passes }

pub finds : {A : Type 0} (p : A → Bool) (x : A) (xs : List A) → IsOneOf x xs → p x ≡ true → Found p xs
finds p x [] h passes = absurd h
finds p x (y ∷ ys) h passes = found_either (p y) p x y ys refl h passes (λ more. finds p x ys more passes)

either_true : (p q : Bool) → q ≡ true → (p || q) ≡ true
either_true true q e = refl
either_true false q e = e

pub to_any : {A : Type 0} (p : A → Bool) (x : A) (xs : List A) → IsOneOf x xs → p x ≡ true → list_any p xs ≡ true
to_any p x [] h passes = absurd h
to_any p x (y ∷ ys) (inl e) passes = ap (λ b. b || list_any p ys) (ap p e ∙ passes)
to_any p x (y ∷ ys) (inr h) passes = either_true (p y) (list_any p ys) (to_any p x ys h passes)

-- one that passes
pub record Passes {A : Type 0} (p : A → Bool) (xs : List A) : Type 0 where
  pub at : A
  pub listed : IsOneOf at xs
  pub passes : p at ≡ true

any_either : {A : Type 0} (b : Bool) (p : A → Bool) (y : A) (ys : List A) → p y ≡ b → (b || list_any p ys) ≡ true → (list_any p ys ≡ true → Passes p ys) → Passes p (y ∷ ys)
any_either true p y ys is any rest = record { at = y; listed = inl refl; passes = is }
any_either false p y ys is any rest = let r = rest any in record { at = r.at; listed = inr r.listed; passes = r.passes }

pub of_any : {A : Type 0} (p : A → Bool) (xs : List A) → list_any p xs ≡ true → Passes p xs
of_any p [] any = absurd (false≢true any)
of_any p (y ∷ ys) any = any_either (p y) p y ys refl any (of_any p ys)

-- ---- in order

abbrev begins_above : ℕ → List ℕ → Bool
begins_above m [] = true
begins_above m (x ∷ xs) = nat_lt m x

pub and_true : (p q : Bool) → p ≡ true → q ≡ true → (p && q) ≡ true
and_true true q a b = b
and_true false q a b = absurd (false≢true a)

ascends : (m : ℕ) (xs : List ℕ) → begins_above m xs ≡ true → is_strictly_ascending xs ≡ true → is_strictly_ascending (m ∷ xs) ≡ true
unfolding is_strictly_ascending
ascends m [] above rest = refl
ascends m (x ∷ xs) above rest = and_true _ _ above rest

pub ascend_parts : (m : ℕ) (xs : List ℕ) → is_strictly_ascending (m ∷ xs) ≡ true → (begins_above m xs ≡ true) × (is_strictly_ascending xs ≡ true)
unfolding is_strictly_ascending
ascend_parts m [] is = (refl, refl)
ascend_parts m (x ∷ xs) is = and_parts _ _ is

-- the three ways in which a number is put before, at or behind the first
module _ (n m : ℕ) (ms rest : List ℕ) where
  abbrev put : Bool → Bool → List ℕ
  put p q = cond p (n ∷ m ∷ ms) (cond q (m ∷ ms) (m ∷ rest))

  begins_put : (p q : Bool) (low : ℕ) → low < n → low < m → begins_above low (put p q) ≡ true
  begins_put true q low less more = lt-ltb low n less
  begins_put false true low less more = lt-ltb low m more
  begins_put false false low less more = lt-ltb low m more

  ascend_put : (p q : Bool) → nat_lt n m ≡ p → (m == n) ≡ q → is_strictly_ascending (m ∷ ms) ≡ true → (m < n → begins_above m ms ≡ true → begins_above m rest ≡ true) → (is_strictly_ascending ms ≡ true → is_strictly_ascending rest ≡ true)
      → is_strictly_ascending (put p q) ≡ true
  ascend_put true q less same is above keeps = ascends n (m ∷ ms) less is
  ascend_put false true less same is above keeps = is
  ascend_put false false less same is above keeps =
      let parts = ascend_parts m ms is in
      let high : m ≤ n = ltb-false n m less in
      let other : m ≡ n → ⊥ = eqb-false m n same in
      ascends m rest (above (omega (arith, high, other)) parts.0) (keeps parts.1)

  into_put : (p q : Bool) (i : ℕ) → nat_lt n m ≡ p → (m == n) ≡ q → (n ≡ i) ⊎ IsOneOf i (m ∷ ms) → ((n ≡ i) ⊎ IsOneOf i ms → IsOneOf i rest) → IsOneOf i (put p q)
  into_put true q i less same h keeps = h
  into_put false true i less same (inl e) keeps = inl (eqb-true m n same ∙ e)
  into_put false true i less same (inr h) keeps = h
  into_put false false i less same (inl e) keeps = inr (keeps (inl e))
  into_put false false i less same (inr (inl e)) keeps = inl e
  into_put false false i less same (inr (inr h)) keeps = inr (keeps (inr h))

  of_put : (p q : Bool) (i : ℕ) → IsOneOf i (put p q) → (IsOneOf i rest → (n ≡ i) ⊎ IsOneOf i ms) → (n ≡ i) ⊎ IsOneOf i (m ∷ ms)
  of_put true q i h back = h
  of_put false true i h back = inr h
  of_put false false i (inl e) back = inr (inl e)
  of_put false false i (inr h) back = elim (back h) [ inl e ↦ inl e | inr more ↦ inr (inr more) ]

  long_put : (p q : Bool) → length rest ≤ suc (length ms) → length (put p q) ≤ suc (suc (length ms))
  long_put true q less = omega arith
  long_put false true less = omega arith
  long_put false false less = omega (arith, less)

begins_with : (low n : ℕ) (ms : List ℕ) → low < n → begins_above low ms ≡ true → begins_above low (with_index ms n) ≡ true
unfolding with_index
begins_with low n [] less above = lt-ltb low n less
begins_with low n (m ∷ ms) less above = begins_put n m ms (with_index ms n) (nat_lt n m) (m == n) low less (ltb-true low m above)

ascend_with : (n : ℕ) (ms : List ℕ) → is_strictly_ascending ms ≡ true → is_strictly_ascending (with_index ms n) ≡ true
unfolding with_index is_strictly_ascending
ascend_with n [] is = refl
ascend_with n (m ∷ ms) is = ascend_put n m ms (with_index ms n) (nat_lt n m) (m == n) refl refl is (λ less above. begins_with m n ms less above) (ascend_with n ms)

pub in_order_ascends : (ns : List ℕ) → is_strictly_ascending (in_order ns) ≡ true
unfolding in_order is_strictly_ascending
in_order_ascends [] = refl
in_order_ascends (n ∷ ns) = ascend_with n (in_order ns) (in_order_ascends ns)

pub into_with : (n i : ℕ) (ms : List ℕ) → (n ≡ i) ⊎ IsOneOf i ms → IsOneOf i (with_index ms n)
unfolding with_index
into_with n i [] h = h
into_with n i (m ∷ ms) h = into_put n m ms (with_index ms n) (nat_lt n m) (m == n) i refl refl h (into_with n i ms)

pub of_with : (n i : ℕ) (ms : List ℕ) → IsOneOf i (with_index ms n) → (n ≡ i) ⊎ IsOneOf i ms
unfolding with_index
of_with n i [] h = h
of_with n i (m ∷ ms) h = of_put n m ms (with_index ms n) (nat_lt n m) (m == n) i h (of_with n i ms)

pub into_order : (i : ℕ) (ns : List ℕ) → IsOneOf i ns → IsOneOf i (in_order ns)
unfolding in_order
into_order i [] h = h
into_order i (n ∷ ns) (inl e) = into_with n i (in_order ns) (inl e)
into_order i (n ∷ ns) (inr h) = into_with n i (in_order ns) (inr (into_order i ns h))

pub of_order : (i : ℕ) (ns : List ℕ) → IsOneOf i (in_order ns) → IsOneOf i ns
unfolding in_order
of_order i [] h = h
of_order i (n ∷ ns) h = elim (of_with n i (in_order ns) h) [ inl e ↦ inl e | inr more ↦ inr (of_order i ns more) ]

long_with : (n : ℕ) (ms : List ℕ) → length (with_index ms n) ≤ suc (length ms)
unfolding with_index
long_with n [] = omega arith
long_with n (m ∷ ms) = long_put n m ms (with_index ms n) (nat_lt n m) (m == n) (long_with n ms)

pub in_order_long : (ns : List ℕ) → length (in_order ns) ≤ length ns
unfolding in_order
in_order_long [] = omega arith
in_order_long (n ∷ ns) = let less = in_order_long ns in let one = long_with n (in_order ns) in omega (arith, less, one)

-- ---- what was found

cond_found : {A : Type 0} (b : Bool) (p : A → Bool) (x y : A) (ys : List A) → p y ≡ b → cond b (Some y) (find p ys) ≡ Some x → (find p ys ≡ Some x → IsOneOf x ys × (p x ≡ true)) → IsOneOf x (y ∷ ys) × (p x ≡ true)
cond_found true p x y ys is e rest = let same : y ≡ x = same_Some y x e in (inl same, ap p (sym same) ∙ is)
cond_found false p x y ys is e rest = let r = rest e in (inr r.0, r.1)

pub of_find : {A : Type 0} (p : A → Bool) (x : A) (xs : List A) → find p xs ≡ Some x → IsOneOf x xs × (p x ≡ true)
of_find p x [] is = absurd (false≢true (ap is_some is))
of_find p x (y ∷ ys) is = cond_found (p y) p x y ys refl is (of_find p x ys)

-- an option that is some
pub record Is {A : Type 0} (o : Option A) : Type 0 where
  pub value : A
  pub is : o ≡ Some value

pub value_of : {A : Type 0} (o : Option A) → is_some o ≡ true → Is o
value_of (Some x) is = record { value = x; is = refl }
value_of None is = absurd (false≢true is)

-- ---- two ascending lists of the same numbers are one

above_all : (m : ℕ) (xs : List ℕ) (i : ℕ) → begins_above m xs ≡ true → is_strictly_ascending xs ≡ true → IsOneOf i xs → m < i
above_all m [] i above up h = absurd h
above_all m (x ∷ xs) i above up (inl e) = let less = ltb-true m x above in omega (arith, less, e)
above_all m (x ∷ xs) i above up (inr h) = let less = ltb-true m x above in let parts = ascend_parts x xs up in let more = above_all x xs i parts.0 parts.1 h in omega (arith, less, more)

first_least : (x y : ℕ) (xs ys : List ℕ) → is_strictly_ascending (y ∷ ys) ≡ true → IsOneOf x (y ∷ ys) → y ≤ x
first_least x y xs ys up (inl e) = omega (arith, e)
first_least x y xs ys up (inr h) = let parts = ascend_parts y ys up in let less = above_all y ys x parts.0 parts.1 h in omega (arith, less)

same_first : (x y : ℕ) → x ≤ y → y ≤ x → x ≡ y
same_first x y a b = omega (arith, a, b)

behind : (x y i : ℕ) (xs ys : List ℕ) → is_strictly_ascending (x ∷ xs) ≡ true → y ≡ x → IsOneOf i xs → IsOneOf i (y ∷ ys) → IsOneOf i ys
behind x y i xs ys up same h (inr more) = more
behind x y i xs ys up same h (inl e) = let parts = ascend_parts x xs up in let less = above_all x xs i parts.0 parts.1 h in absurd (omega (arith, less, e, same))

pub ascending_same : (xs ys : List ℕ) → is_strictly_ascending xs ≡ true → is_strictly_ascending ys ≡ true → ((i : ℕ) → IsOneOf i xs → IsOneOf i ys) → ((i : ℕ) → IsOneOf i ys → IsOneOf i xs) → xs ≡ ys
ascending_same [] [] up other one back = refl
ascending_same [] (y ∷ ys) up other one back = absurd (back y (inl refl))
ascending_same (x ∷ xs) [] up other one back = absurd (one x (inl refl))
ascending_same (x ∷ xs) (y ∷ ys) up other one back =
    let same : x ≡ y = same_first x y (first_least y x ys xs up (back y (inl refl))) (first_least x y xs ys other (one x (inl refl))) in
    ap₂ (λ (k : ℕ) (ks : List ℕ). k ∷ ks) same (ascending_same xs ys (ascend_parts x xs up).1 (ascend_parts y ys other).1
    (λ i h. behind x y i xs ys up (sym same) h (one i (inr h))) (λ i h. behind y x i ys xs other same h (back i (inr h))))
