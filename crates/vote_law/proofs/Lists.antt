-- Lists all of whose items have a property, and the items that are among them.
use Rattle.std.proofs.Common.{◌≡◌, ◌⊎◌, inl, inr, Bool, true, false, cond, List, [], ◌∷◌, ◌++◌, refl, subst}
use Rattle.std.specs.List.{AllByRecursion, filter}
use Rattle.ffg_law.specs.Links.{IsOneOf}

-- one of all
pub all_of : {A : Type 0} (P : A → Type 0) (xs : List A) (x : A) → AllByRecursion P xs → IsOneOf x xs → P x
all_of P [] x all one = absurd one
all_of P (y ∷ ys) x all (inl is) = subst P is all.0
all_of P (y ∷ ys) x all (inr later) = all_of P ys x all.1 later

-- all with one more at the end
pub with_last : {A : Type 0} (P : A → Type 0) (xs : List A) (x : A) → AllByRecursion P xs → P x → AllByRecursion P (xs ++ x ∷ [])
with_last P [] x all one = (one, tt)
with_last P (y ∷ ys) x all one = (all.0, with_last P ys x all.1 one)

-- all of both parts
pub parts_of_all : {A : Type 0} (P : A → Type 0) (xs ys : List A) → AllByRecursion P (xs ++ ys) → AllByRecursion P xs × AllByRecursion P ys
parts_of_all P [] ys all = (tt, all)
parts_of_all P (x ∷ xs) ys all = let rest = parts_of_all P xs ys all.1 in ((all.0, rest.0), rest.1)

pub all_more : {A : Type 0} (P Q : A → Type 0) (xs : List A) → ((x : A) → P x → Q x) → AllByRecursion P xs → AllByRecursion Q xs
all_more P Q [] more all = tt
all_more P Q (x ∷ xs) more all = (more x all.0, all_more P Q xs more all.1)

filtered_first : {A : Type 0} (test : A → Bool) (y : A) (ys : List A) (x : A) (passes : Bool) → test y ≡ passes → IsOneOf x (filter test (y ∷ ys)) → (IsOneOf x (filter test ys) → IsOneOf x ys × (test x ≡ true)) → IsOneOf x (y ∷ ys) × (test x ≡ true)
filtered_first test y ys x true is one rest = elim (let found : (y ≡ x) ⊎ IsOneOf x (filter test ys) = subst (λ (b : Bool). IsOneOf x (cond b (y ∷ filter test ys) (filter test ys))) is one in found) [
  | inl first ↦ (inl first, subst (λ z. test z ≡ true) first is)
  | inr later ↦ let behind = rest later in (inr behind.0, behind.1)
]
filtered_first test y ys x false is one rest = let behind = rest (subst (λ (b : Bool). IsOneOf x (cond b (y ∷ filter test ys) (filter test ys))) is one) in (inr behind.0, behind.1)

-- one of those that pass a test
pub filtered : {A : Type 0} (test : A → Bool) (xs : List A) (x : A) → IsOneOf x (filter test xs) → IsOneOf x xs × (test x ≡ true)
filtered test [] x one = absurd one
filtered test (y ∷ ys) x one = filtered_first test y ys x (test y) refl one (filtered test ys x)
