-- The first pair of a list: its items are of the list, and it is that of the list's images.
use Rattle.std.proofs.Common.{◌≡◌, ◌∙◌, Bool, true, false, cond, List, [], ◌∷◌, ◌++◌, map, Option, Some, None, refl, ap, subst, arith}
use Rattle.std.specs.List.{All, find}
use Rattle.std.specs.Option.{option_map}
use Rattle.std.proofs.lemmas.List.Elements.{All-push, All-tail}
use Rattle.spec_forensics.specs.FirstPair.{pair_or, first_pair}

-- ---- what both items of a pair are

pub record IsPair {A : Type 0} (P : A → Type 0) (test : A → A → Bool) (o : Option (A × A)) : Type 0 where
  pub earlier : (pair : A × A) → o ≡ Some pair → P pair.0
  pub later : (pair : A × A) → o ≡ Some pair → P pair.1
  pub passes : (pair : A × A) → o ≡ Some pair → test pair.0 pair.1 ≡ true

record IsFound {A : Type 0} (P : A → Type 0) (test : A → Bool) (x : A) : Type 0 where
  holds : P x
  passes : test x ≡ true

some_is : {A : Type 0} {a b : A} → Some a ≡ Some b → a ≡ b
some_is e = cc

none_isnt : {A : Type 0} {a : A} → None ≡ Some a → ⊥
none_isnt e = cc

found_here : {A : Type 0} (P : A → Type 0) (test : A → Bool) (y : A) (rest : Option A) (x : A) → P y → (rest ≡ Some x → IsFound P test x) → (b : Bool) → test y ≡ b → cond b (Some y) rest ≡ Some x → IsFound P test x
found_here P test y rest x one later true passes e = subst (IsFound P test) (some_is e) (record { holds = one; passes = passes })
found_here P test y rest x one later false passes e = later e

found : {A : Type 0} (P : A → Type 0) (test : A → Bool) (xs : List A) → All P xs → (x : A) → find test xs ≡ Some x → IsFound P test x
found P test [] all x is = absurd (none_isnt is)
found P test (y ∷ ys) all x is = found_here P test y (find test ys) x (all 0 y (omega arith)) (λ e. found P test ys (All-tail P y ys all) x e) (test y) refl is

module _ {A : Type 0} (P : A → Type 0) (test : A → A → Bool) where
  one_more : (earlier : List A) (x : A) (rest : Option (A × A)) → All P earlier → P x → IsPair P test rest → (o : Option A) → find (λ e. test e x) earlier ≡ o → IsPair P test (pair_or o x rest)
  unfolding pair_or
  one_more earlier x rest before one after None is = after
  one_more earlier x rest before one after (Some e) is =
      let f = found P (λ e. test e x) earlier before e is in
      record {
        earlier = λ pair same. subst (λ (q : A × A). P q.0) (some_is same) f.holds;
        later = λ pair same. subst (λ (q : A × A). P q.1) (some_is same) one;
        passes = λ pair same. subst (λ (q : A × A). test q.0 q.1 ≡ true) (some_is same) f.passes;
      }

  nothing : IsPair P test None
  nothing = record { earlier = λ pair same. absurd (none_isnt same); later = λ pair same. absurd (none_isnt same); passes = λ pair same. absurd (none_isnt same) }

  pub is_pair : (earlier later : List A) → All P earlier → All P later → IsPair P test (first_pair test earlier later)
  unfolding first_pair
  is_pair earlier [] before behind = nothing
  is_pair earlier (x ∷ later) before behind =
      let one : P x = behind 0 x (omega arith) in
      one_more earlier x (first_pair test (earlier ++ x ∷ []) later) before one
      (is_pair (earlier ++ x ∷ []) later (All-push P earlier x before one) (All-tail P x later behind)) (find (λ e. test e x) earlier) refl

-- ---- images

module _ {A B : Type 0} (make : A → B) (test : B → B → Bool) where
  pair : A × A → B × B
  pair o = (make o.0, make o.1)

  either : (b : Bool) (x : A) (rest : Option A) → cond b (Some (make x)) (option_map make rest) ≡ option_map make (cond b (Some x) rest)
  either true x rest = refl
  either false x rest = refl

  find_is : (v : A) (xs : List A) → find (λ e. test e (make v)) (map make xs) ≡ option_map make (find (λ e. test (make e) (make v)) xs)
  find_is v [] = refl
  find_is v (x ∷ xs) =
      ap (λ o. cond (test (make x) (make v)) (Some (make x)) o) (find_is v xs)
      ∙ either (test (make x) (make v)) x (find (λ e. test (make e) (make v)) xs)

  or_is : (found : Option A) (v : A) (rest : Option (A × A)) → pair_or (option_map make found) (make v) (option_map pair rest) ≡ option_map pair (pair_or found v rest)
  unfolding pair_or pair
  or_is (Some e) v rest = refl
  or_is None v rest = refl

  map_push : (xs : List A) (v : A) → map make xs ++ make v ∷ [] ≡ map make (xs ++ v ∷ [])
  map_push [] v = refl
  map_push (x ∷ xs) v = ap (λ ys. make x ∷ ys) (map_push xs v)

  first_is : (earlier later : List A) → first_pair test (map make earlier) (map make later) ≡ option_map pair (first_pair (λ a b. test (make a) (make b)) earlier later)
  unfolding first_pair
  first_is earlier [] = refl
  first_is earlier (v ∷ later) =
      ap (λ o. pair_or o (make v) (first_pair test (map make earlier ++ make v ∷ []) (map make later))) (find_is v earlier)
      ∙ ap (λ xs. pair_or (option_map make (find (λ e. test (make e) (make v)) earlier)) (make v) (first_pair test xs (map make later))) (map_push earlier v)
      ∙ ap (pair_or (option_map make (find (λ e. test (make e) (make v)) earlier)) (make v)) (first_is (earlier ++ v ∷ []) later)
      ∙ or_is (find (λ e. test (make e) (make v)) earlier) v (first_pair (λ a b. test (make a) (make b)) (earlier ++ v ∷ []) later)

pub pair_of_images : {A B : Type 0} (make : A → B) (test : B → B → Bool) (xs : List A) → first_pair test [] (map make xs) ≡ option_map (λ o. (make o.0, make o.1)) (first_pair (λ a b. test (make a) (make b)) [] xs)
unfolding pair
pair_of_images make test xs = first_is make test [] xs
