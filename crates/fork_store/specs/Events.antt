-- How the handler of an event meets its outcome.
use Rattle.std.specs.Prelude.{◌≡◌, ℕ, List, [], Result, Ok, Err}
use Rattle.bc_words.specs.Events.{EventOutcome, accepted, StoreStops}
use Rattle.bc_words.specs.declared.store_stop.StoreStop.{StoreStop}
use Rattle.spec_state.specs.declared.plain.PlainState.{PlainState}
use Rattle.spec_fork_choice.specs.OnEvent as plain
use Rattle.fork_store.specs.declared.on_event.EventKind.{EventKind}
use Rattle.fork_store.specs.declared.on_event.EventKind.TheVariants.{Tick, SignedBlock, WireAttestation, BlockAttestation, Slashing}
use Rattle.fork_store.specs.declared.on_event.Accepted.{Accepted}
use Rattle.fork_store.specs.declared.on_event.Accepted.TheVariants.{Block, Other}

-- the number of an event's kind in a record
unfoldable pub number_of_kind : EventKind → ℕ
number_of_kind Tick = 1
number_of_kind SignedBlock = 2
number_of_kind WireAttestation = 3
number_of_kind BlockAttestation = 4
number_of_kind Slashing = 5

-- what an accepted event gives
abbrev pub accepted_of : Accepted → plain.Accepted
accepted_of (Block block_in) = plain.block block_in
accepted_of Other = plain.other

-- the states on which epoch processing was entered by an accepted event: a block's, and none where it is no block
abbrev pub entered_of : plain.Accepted → List PlainState
entered_of (plain.block block_in) = block_in.entered
entered_of plain.other = []

-- A handler made the outcome's store of what it was lent and answers what stands beside it, seen by view, and leaves the
-- store as it was after a stop
abbrev pub AcceptsBy : {X S A : Type 0} → (X → A) → Result X StoreStop → S → S → EventOutcome (S × A) → Type 0
AcceptsBy view (Ok x) old new outcome = outcome ≡ accepted (new, view x)
AcceptsBy view (Err stop) old new outcome = (new ≡ old) × StoreStops stop outcome

-- The same of a handler whose answer is what stands beside the store
abbrev pub Accepts : {S A : Type 0} → Result A StoreStop → S → S → EventOutcome (S × A) → Type 0
Accepts result old new outcome = AcceptsBy (λ x. x) result old new outcome
