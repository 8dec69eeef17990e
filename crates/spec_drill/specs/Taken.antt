-- Which events a store takes, one after the other.
use Rattle.std.specs.Prelude.{List, [], ◌∷◌, Option, Some, None}
use Rattle.bc_words.specs.Events.{EventOutcome, accepted, event_refused, event_limited, event_clashes}
use Rattle.spec_fork_choice.specs.Store.{Store}
use Rattle.spec_fork_choice.specs.OnEvent.{Accepted, on_event}
use Rattle.spec_drill.specs.Make.{MadeEvent, kind_of, payload_of}

-- an event is accepted, and of the new store this holds; or it clashes
abbrev pub Takes : EventOutcome (Store × Accepted) → (Store → Type 0) → Type 0
Takes (accepted new) later = later new.0
Takes (event_refused why) later = ⊥
Takes (event_limited bound) later = ⊥
Takes (event_clashes kind) later = Unit {0}

-- Each event, as it is written, is accepted by the store behind the events before it, until one clashes
unfoldable pub AreTakenAsWritten : Store → List MadeEvent → Type 0
AreTakenAsWritten store [] = Unit {0}
AreTakenAsWritten store (event ∷ events) = Takes (on_event store (kind_of event) (payload_of event)) (λ new. AreTakenAsWritten new events)

-- the store behind an event, where it is accepted
abbrev pub store_then : EventOutcome (Store × Accepted) → (Store → Option Store) → Option Store
store_then (accepted new) next = next new.0
store_then (event_refused why) next = None
store_then (event_limited bound) next = None
store_then (event_clashes kind) next = None

-- the store behind events, where each is accepted
unfoldable pub store_after : Store → List MadeEvent → Option Store
store_after store [] = Some store
store_after store (event ∷ events) = store_then (on_event store (kind_of event) (payload_of event)) (λ new. store_after new events)

-- an event is accepted, or clashes
abbrev pub IsTakenBy : Store → MadeEvent → Type 0
IsTakenBy store event = Takes (on_event store (kind_of event) (payload_of event)) (λ new. Unit {0})
