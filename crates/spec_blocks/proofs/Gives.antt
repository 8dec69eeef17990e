-- Steps that nothing refuses, one after another: the dual of what was done on the way to a value (Done).
use Rattle.std.proofs.Common.{◌≡◌, ◌∙◌, ℕ, zero, suc, ◌+◌, ◌-◌, ◌*◌, ◌^◌, ◌<◌, ◌≤◌, Bool, true, false, List, [], ◌∷◌, ◌++◌, length, if◌then◌else◌, refl, ap, arith}
use Rattle.std.specs.List.{AllByRecursion}
use Rattle.std.proofs.lemmas.Bool.{lt-ltb, le-ltb}
use Rattle.bc_words.specs.Outcome.{Outcome, done, refused, bind, checked_add, checked_sub, checked_mul, checked_push}
use Rattle.bc_words.specs.declared.refusal.Refusal.{Refusal}
use Rattle.bc_words.specs.declared.refusal.Refusal.TheVariants.{Overflow, ListFull}
use Rattle.spec_blocks.specs.Checks.{check, item_at, each_of}
use Rattle.spec_blocks.specs.Gives.{Gives}

pub gives_done : {A : Type 0} (P : A → Type 0) (x : A) → P x → Gives P (done x)
gives_done P x holds = record { value = x; is = refl; holds = holds }

-- one step after another
pub gives_then : {A B : Type 0} (P : A → Type 0) (Q : B → Type 0) (outcome : Outcome A) (next : A → Outcome B) → Gives P outcome → ((x : A) → P x → Gives Q (next x)) → Gives Q (bind outcome next)
gives_then P Q outcome next first then_gives =
    let rest = then_gives first.value first.holds in
    record { value = rest.value; is = ap (λ o. bind o next) first.is ∙ rest.is; holds = rest.holds }

-- the same outcome by another name
pub gives_as : {A : Type 0} (P : A → Type 0) (outcome other : Outcome A) → outcome ≡ other → Gives P other → Gives P outcome
gives_as P outcome other same gives = record { value = gives.value; is = same ∙ gives.is; holds = gives.holds }

-- what follows from what holds
pub gives_more : {A : Type 0} (P Q : A → Type 0) (outcome : Outcome A) → ((x : A) → P x → Q x) → Gives P outcome → Gives Q outcome
gives_more P Q outcome follows gives = record { value = gives.value; is = gives.is; holds = follows gives.value gives.holds }

-- either of a choice
pub gives_if : {A : Type 0} (P : A → Type 0) (b : Bool) (outcome other : Outcome A) → (b ≡ true → Gives P outcome) → (b ≡ false → Gives P other) → Gives P (if b then outcome else other)
gives_if P true outcome other one two = one refl
gives_if P false outcome other one two = two refl

-- a value that is known
pub gives_is : {A : Type 0} (x : A) (outcome : Outcome A) → Gives (λ y. y ≡ x) outcome → outcome ≡ done x
gives_is x outcome gives = gives.is ∙ ap done gives.holds

pub is_gives : {A : Type 0} (x : A) (outcome : Outcome A) → outcome ≡ done x → Gives (λ y. y ≡ x) outcome
is_gives x outcome is = record { value = x; is = is; holds = refl }

-- ---- checks and checked numbers

pub check_gives : (holds : Bool) (why : Refusal) → holds ≡ true → check holds why ≡ done tt
check_gives holds why is = ap (λ b. check b why) is

pub add_gives : (a b : ℕ) → a + b < 2 ^ 64 → Gives (λ c. c ≡ a + b) (checked_add a b)
unfolding checked_add
add_gives a b fits = record { value = a + b; is = ap (λ c. if c then done (a + b) else refused Overflow) (lt-ltb _ _ fits); holds = refl }

pub sub_gives : (a b : ℕ) → b ≤ a → Gives (λ c. c ≡ a - b) (checked_sub a b)
unfolding checked_sub
sub_gives a b fits = record { value = a - b; is = ap (λ c. if c then refused Overflow else done (a - b)) (le-ltb _ _ fits); holds = refl }

pub mul_gives : (a b : ℕ) → a * b < 2 ^ 64 → Gives (λ c. c ≡ a * b) (checked_mul a b)
unfolding checked_mul
mul_gives a b fits = record { value = a * b; is = ap (λ c. if c then done (a * b) else refused Overflow) (lt-ltb _ _ fits); holds = refl }

-- ---- lists

pub push_gives : {A : Type 0} (limit : ℕ) (items : List A) (item : A) → length items < limit → checked_push limit items item ≡ done (items ++ item ∷ [])
unfolding checked_push
push_gives limit items item room = ap (λ c. if c then done (items ++ item ∷ []) else refused ListFull) (lt-ltb _ _ room)

pub item_gives : {A : Type 0} (P : A → Type 0) (items : List A) (index : ℕ) → AllByRecursion P items → index < length items → Gives P (item_at items index)
item_gives P [] index all inside = absurd (omega arith)
item_gives P (x ∷ items) zero all inside = gives_done P x all.0
item_gives P (x ∷ items) (suc index) all inside = item_gives P items index all.1 (omega arith)

-- a step that leaves a state as it was, for each item
pub each_same : {A S : Type 0} (step : S → A → Outcome S) (s : S) (items : List A) (P : A → Type 0) → AllByRecursion P items → ((x : A) → P x → step s x ≡ done s) → each_of step s items ≡ done s
unfolding each_of
each_same step s [] P all same = refl
each_same step s (x ∷ items) P all same = ap (λ o. bind o (λ next. each_of step next items)) (same x all.0) ∙ each_same step s items P all.1 same
