-- What a handler of fork choice answers of one event (fork-choice.md, "Handlers"), and how the answer of code meets it.
use Rattle.std.specs.Prelude.{◌≡◌, Result, Ok, Err}
use Rattle.bc_words.specs.Outcome.{Outcome, done, refused, limited}
use Rattle.bc_words.specs.declared.refusal.Refusal.{Refusal}
use Rattle.bc_words.specs.declared.stop.Limit.{Limit}
use Rattle.bc_words.specs.declared.stop.Stop.{Stop}
use Rattle.bc_words.specs.declared.stop.Stop.TheVariants as stops
use Rattle.bc_words.specs.declared.store_stop.ClashKind.{ClashKind}
use Rattle.bc_words.specs.declared.store_stop.StoreStop.{StoreStop}
use Rattle.bc_words.specs.declared.store_stop.StoreStop.TheVariants as stores

-- the event is accepted with a value, or the first check failed, or it met a bound of this program, or it would be
-- accepted and its root is no name for its block alone
pub data EventOutcome (A : Type 0) : Type 0 where
  accepted : A → EventOutcome A
  event_refused : Refusal → EventOutcome A
  event_limited : Limit → EventOutcome A
  event_clashes : ClashKind → EventOutcome A

-- one step after another, as with outcomes
abbrev pub then_event : {A B : Type 0} → EventOutcome A → (A → EventOutcome B) → EventOutcome B
then_event (accepted x) next = next x
then_event (event_refused why) next = event_refused why
then_event (event_limited bound) next = event_limited bound
then_event (event_clashes kind) next = event_clashes kind

-- a plain function on the way to an event's outcome: its stop is the event's
abbrev pub on_the_way : {A B : Type 0} → Outcome A → (A → EventOutcome B) → EventOutcome B
on_the_way (done x) next = next x
on_the_way (refused why) next = event_refused why
on_the_way (limited bound) next = event_limited bound

-- the stop of a step, as the store's
abbrev pub store_stop : Stop → StoreStop
store_stop (stops.Refused why) = stores.Refused why
store_stop (stops.Limit bound) = stores.Limit bound
store_stop stops.NoMemory = stores.NoMemory

-- The stop of a handler is that of the outcome. Want of memory may come at any outcome
abbrev pub StoreStops : {A : Type 0} → StoreStop → EventOutcome A → Type 0
StoreStops (stores.Refused why) outcome = outcome ≡ event_refused why
StoreStops (stores.Limit bound) outcome = outcome ≡ event_limited bound
StoreStops (stores.Clash kind) outcome = outcome ≡ event_clashes kind
StoreStops stores.NoMemory outcome = Unit {0}

-- The answer of a handler, seen by view, is the outcome
abbrev pub StoreGivesBy : {X A : Type 0} → (X → A) → Result X StoreStop → EventOutcome A → Type 0
StoreGivesBy view (Ok x) outcome = outcome ≡ accepted (view x)
StoreGivesBy view (Err stop) outcome = StoreStops stop outcome

-- A handler made the outcome's value of what it was lent, and leaves anything there after a stop
abbrev pub StoreMoves : {U A : Type 0} → Result U StoreStop → A → EventOutcome A → Type 0
StoreMoves (Ok x) new outcome = outcome ≡ accepted new
StoreMoves (Err stop) new outcome = StoreStops stop outcome

-- A handler made the outcome's value of what it was lent, and leaves it as it was after a stop
abbrev pub StoreChanges : {U A : Type 0} → Result U StoreStop → A → A → EventOutcome A → Type 0
StoreChanges (Ok x) old new outcome = outcome ≡ accepted new
StoreChanges (Err stop) old new outcome = (new ≡ old) × StoreStops stop outcome
