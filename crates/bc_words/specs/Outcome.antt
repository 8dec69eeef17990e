-- What a plain function of the published specification answers, where it may stop (beacon-chain.md, "Beacon chain
-- state transition function": a failed assert, or a uint64 that overflows, makes the transition invalid), and how
-- the answer of code meets it.
use Rattle.std.specs.Prelude.{◌≡◌, ℕ, zero, suc, ◌+◌, ◌-◌, ◌*◌, ◌^◌, List, [], ◌∷◌, ◌++◌, length, nat_lt, if◌then◌else◌, Result, Ok, Err}
use Rattle.bc_words.specs.declared.refusal.Refusal.{Refusal}
use Rattle.bc_words.specs.declared.refusal.Refusal.TheVariants.{ListFull, Overflow}
use Rattle.bc_words.specs.declared.stop.Limit.{Limit}
use Rattle.bc_words.specs.declared.stop.NoMemory.{NoMemory}
use Rattle.bc_words.specs.declared.stop.PushStop.{PushStop}
use Rattle.bc_words.specs.declared.stop.PushStop.TheVariants as pushes
use Rattle.bc_words.specs.declared.stop.Stop.{Stop}
use Rattle.bc_words.specs.declared.stop.Stop.TheVariants as stops

-- a value, or the first check that failed, or a bound of this program
pub data Outcome (A : Type 0) : Type 0 where
  done : A → Outcome A
  refused : Refusal → Outcome A
  limited : Limit → Outcome A

-- one step after another: the first answer that is no value is the answer of both
abbrev pub bind : {A B : Type 0} → Outcome A → (A → Outcome B) → Outcome B
bind (done x) next = next x
bind (refused why) next = refused why
bind (limited bound) next = limited bound

infixl 10 ◌>>=◌
-- the same for a do block
abbrev pub ◌>>=◌ : {A B : Type 0} → Outcome A → (A → Outcome B) → Outcome B
outcome >>= next = bind outcome next

-- a sum, difference or product of uint64, refused where it does not fit
unfoldable pub checked_add : ℕ → ℕ → Outcome ℕ
checked_add a b = if nat_lt (a + b) (2 ^ 64) then done (a + b) else refused Overflow

unfoldable pub checked_sub : ℕ → ℕ → Outcome ℕ
checked_sub a b = if nat_lt a b then refused Overflow else done (a - b)

unfoldable pub checked_mul : ℕ → ℕ → Outcome ℕ
checked_mul a b = if nat_lt (a * b) (2 ^ 64) then done (a * b) else refused Overflow

-- the sum of a number and what a list's items count, from left to right, refused where a sum on the way does not fit
unfoldable pub checked_sum_from : {A : Type 0} → (A → ℕ) → ℕ → List A → Outcome ℕ
checked_sum_from count sum [] = done sum
checked_sum_from count sum (x ∷ xs) = do
  more ← checked_add sum (count x)
  checked_sum_from count more xs

-- The sum of what a list's items count, from left to right. It is the whole sum where that fits, and refused exactly
-- where it does not (proofs/Sums.antt)
unfoldable pub checked_sum_by : {A : Type 0} → (A → ℕ) → List A → Outcome ℕ
checked_sum_by count xs = checked_sum_from count 0 xs

-- the sum of a list of numbers
abbrev pub checked_sum : List ℕ → Outcome ℕ
checked_sum xs = checked_sum_by (λ x. x) xs

-- a list with one item more, refused where it has as many as its limit
unfoldable pub checked_push : {A : Type 0} → ℕ → List A → A → Outcome (List A)
checked_push limit items item = if nat_lt (length items) limit then done (items ++ item ∷ []) else refused ListFull

-- One step for each index from i on, count of them, each from the state that the step before it made
unfoldable pub each_from : {S : Type 0} → (ℕ → S → Outcome S) → ℕ → ℕ → S → Outcome S
each_from step zero i state = done state
each_from step (suc count) i state = do
  next ← step i state
  each_from step count (i + 1) next

-- The stop of a call is that of the outcome. Want of memory may come at any outcome
abbrev pub Stops : {A : Type 0} → Stop → Outcome A → Type 0
Stops (stops.Refused why) outcome = outcome ≡ refused why
Stops (stops.Limit bound) outcome = outcome ≡ limited bound
Stops stops.NoMemory outcome = Unit {0}

-- The answer of a call is the outcome
abbrev pub Gives : {A : Type 0} → Result A Stop → Outcome A → Type 0
Gives (Ok x) outcome = outcome ≡ done x
Gives (Err stop) outcome = Stops stop outcome

-- The answer of a call that takes no memory is the outcome
abbrev pub StopsExactly : {A : Type 0} → Stop → Outcome A → Type 0
StopsExactly (stops.Refused why) outcome = outcome ≡ refused why
StopsExactly (stops.Limit bound) outcome = outcome ≡ limited bound
StopsExactly stops.NoMemory outcome = ⊥

abbrev pub GivesExactly : {A : Type 0} → Result A Stop → Outcome A → Type 0
GivesExactly (Ok x) outcome = outcome ≡ done x
GivesExactly (Err stop) outcome = StopsExactly stop outcome

-- The answer of a call, seen by view, is the outcome
abbrev pub GivesBy : {X A : Type 0} → (X → A) → Result X Stop → Outcome A → Type 0
GivesBy view (Ok x) outcome = outcome ≡ done (view x)
GivesBy view (Err stop) outcome = Stops stop outcome

-- A call made the outcome's value of what it was lent, and leaves anything there after a stop
abbrev pub Moves : {U A : Type 0} → Result U Stop → A → Outcome A → Type 0
Moves (Ok x) new outcome = outcome ≡ done new
Moves (Err stop) new outcome = Stops stop outcome

-- A call made the outcome's value of what it was lent, and leaves it as it was after a stop
abbrev pub Changes : {U A : Type 0} → Result U Stop → A → A → Outcome A → Type 0
Changes (Ok x) old new outcome = outcome ≡ done new
Changes (Err stop) old new outcome = (new ≡ old) × Stops stop outcome

-- The answer of a call that no memory is asked for and that has no limit is the outcome
abbrev pub GivesOrRefuses : {A : Type 0} → Result A Refusal → Outcome A → Type 0
GivesOrRefuses (Ok x) outcome = outcome ≡ done x
GivesOrRefuses (Err why) outcome = outcome ≡ refused why

-- The same of what the call was lent
abbrev pub ChangesOrRefuses : {U A : Type 0} → Result U Refusal → A → A → Outcome A → Type 0
ChangesOrRefuses (Ok x) old new outcome = outcome ≡ done new
ChangesOrRefuses (Err why) old new outcome = (new ≡ old) × (outcome ≡ refused why)

-- the stop of a push, as that of a step: a full list is refused
abbrev pub push_stop : PushStop → Stop
push_stop pushes.Full = stops.Refused ListFull
push_stop pushes.NoMemory = stops.NoMemory

-- The stop of a push is that of the outcome
abbrev pub PushStops : {A : Type 0} → PushStop → Outcome A → Type 0
PushStops pushes.Full outcome = outcome ≡ refused ListFull
PushStops pushes.NoMemory outcome = Unit {0}

-- A call that adds to a list made the outcome's value of what it was lent, and leaves it as it was after a stop
abbrev pub Pushes : {U A : Type 0} → Result U PushStop → A → A → Outcome A → Type 0
Pushes (Ok x) old new outcome = outcome ≡ done new
Pushes (Err stop) old new outcome = (new ≡ old) × PushStops stop outcome

-- A call that nothing but want of memory stops made the value of what it was lent, and leaves it as it was without
-- memory
abbrev pub Becomes : {U A : Type 0} → Result U NoMemory → A → A → A → Type 0
Becomes (Ok x) old new value = new ≡ value
Becomes (Err stop) old new value = new ≡ old
