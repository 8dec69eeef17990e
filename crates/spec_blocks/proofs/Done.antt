-- What was done on the way to an outcome's value.
use Rattle.std.proofs.Common.{◌≡◌, ◌⊎◌, ℕ, ◌+◌, ◌-◌, ◌^◌, Bool, true, false, List, [], ◌∷◌, ◌++◌, length, Option, Some, None, slice_get, nat_lt, if◌then◌else◌, refl, sym, ap, inl, inr}
use Rattle.std.proofs.lemmas.Bool.{false≢true}
use Rattle.bc_words.specs.Outcome.{Outcome, done, refused, limited, bind, checked_add, checked_sub, checked_push}
use Rattle.spec_blocks.specs.Checks.{check, found, item_at}
use Rattle.bc_words.specs.declared.refusal.Refusal.{Refusal}

-- a step on the way, and what came behind it
pub record OnTheWay {A B : Type 0} (outcome : Outcome A) (next : A → Outcome B) (y : B) : Type 0 where
  pub value : A
  pub first : outcome ≡ done value
  pub then_done : next value ≡ done y

abbrev value_or : {A : Type 0} → A → Outcome A → A
value_or x (done y) = y
value_or x (refused why) = x
value_or x (limited bound) = x

is_done : {A : Type 0} → Outcome A → Bool
is_done (done x) = true
is_done (refused why) = false
is_done (limited bound) = false

pub on_the_way : {A B : Type 0} (outcome : Outcome A) (next : A → Outcome B) (y : B) → bind outcome next ≡ done y → OnTheWay outcome next y
unfolding is_done
on_the_way (done x) next y is = record { value = x; first = refl; then_done = is }
on_the_way (refused why) next y is = absurd (false≢true (ap is_done is))
on_the_way (limited bound) next y is = absurd (false≢true (ap is_done is))

-- a check on the way holds
pub check_holds : (holds : Bool) (why : Refusal) (x : Unit {0}) → check holds why ≡ done x → holds ≡ true
unfolding is_done
check_holds true why x is = refl
check_holds false why x is = absurd (false≢true (ap is_done is))

-- a choice on the way is one of both
pub chosen : {A : Type 0} (first : Bool) (x y z : A) → (if first then x else y) ≡ z → ((first ≡ true) × (x ≡ z)) ⊎ ((first ≡ false) × (y ≡ z))
chosen true x y z is = inl (refl, is)
chosen false x y z is = inr (refl, is)

-- a value that an outcome has
pub same_value : {A : Type 0} (x y : A) → done x ≡ done y → x ≡ y
same_value x y is = ap (value_or x) is

-- a sum that was done
pub sum_is : (a b c : ℕ) → checked_add a b ≡ done c → c ≡ a + b
unfolding checked_add is_done
sum_is a b c is = elim (chosen (nat_lt (a + b) (2 ^ 64)) _ _ _ is) [
  | inl fits ↦ sym (same_value (a + b) c fits.1)
  | inr over ↦ absurd (false≢true (ap is_done over.1))
]

found_is : {A : Type 0} (o : Option A) (x : A) → found o ≡ done x → o ≡ Some x
unfolding is_done
found_is (Some y) x is = ap Some (same_value y x is)
found_is None x is = absurd (false≢true (ap is_done is))

-- an item that was found
pub item_is : {A : Type 0} (items : List A) (index : ℕ) (x : A) → item_at items index ≡ done x → slice_get items index ≡ Some x
item_is items index x is = found_is (slice_get items index) x is

-- a push that was done
pub push_is : {A : Type 0} (limit : ℕ) (items : List A) (item : A) (more : List A) → checked_push limit items item ≡ done more → more ≡ items ++ item ∷ []
unfolding checked_push is_done
push_is limit items item more is = elim (chosen (nat_lt (length items) limit) _ _ _ is) [
  | inl room ↦ sym (same_value (items ++ item ∷ []) more room.1)
  | inr full ↦ absurd (false≢true (ap is_done full.1))
]

-- a difference that was done
pub difference_is : (a b c : ℕ) → checked_sub a b ≡ done c → c ≡ a - b
unfolding checked_sub is_done
difference_is a b c is = elim (chosen (nat_lt a b) _ _ _ is) [
  | inl less ↦ absurd (false≢true (ap is_done less.1))
  | inr fits ↦ sym (same_value (a - b) c fits.1)
]
