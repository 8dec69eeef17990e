-- Events as they are written: the store reads each back, so it takes them as the handlers do.
use Rattle.std.proofs.Common.{◌≡◌, ℕ, true, false, List, [], ◌∷◌, sym, ap, subst}
use Rattle.std.proofs.lemmas.Nat.{from_le_bytes-to_le_bytes_8}
use Rattle.hash_tree.specs.Merkle.{uint_to_bytes}
use Rattle.bc_words.specs.Events.{EventOutcome, accepted, event_refused, event_limited, event_clashes}
use Rattle.beacon_types.specs.laws.Blocks.{signed_block_lawful, attestation_lawful}
use Rattle.spec_fork_choice.specs.Store.{Store}
use Rattle.spec_fork_choice.specs.OnTick.{on_tick}
use Rattle.spec_fork_choice.specs.OnEvent.{Accepted, without_block, handle_tick, handle_block, handle_attestation, on_event}
use Rattle.spec_drill.specs.Make.{MadeEvent, kind_of, payload_of}
use Rattle.spec_drill.specs.Taken.{Takes, AreTakenAsWritten}
use Rattle.spec_drill.specs.inside.Handled.{handled, IsWritable, AreTaken}
use Rattle.spec_drill.specs.Make as makes

pub as_written : (store : Store) (event : MadeEvent) → IsWritable event → on_event store (kind_of event) (payload_of event) ≡ handled store event
unfolding uint_to_bytes without_block on_event handle_tick handle_block handle_attestation kind_of payload_of handled
as_written store (makes.tick time) low = ap (λ (t : ℕ). without_block (on_tick store t)) (from_le_bytes-to_le_bytes_8 time low)
as_written store (makes.block signed) within = ap (handle_block store) (signed_block_lawful.complete signed within)
as_written store (makes.wire attestation) within = ap (handle_attestation store false) (attestation_lawful.complete attestation within)
as_written store (makes.carried attestation) within = ap (handle_attestation store true) (attestation_lawful.complete attestation within)

takes_more : (o : EventOutcome (Store × Accepted)) (P Q : Store → Type 0) → ((s : Store) → P s → Q s) → Takes o P → Takes o Q
takes_more (accepted new) P Q h t = h new.0 t
takes_more (event_refused why) P Q h t = t
takes_more (event_limited bound) P Q h t = t
takes_more (event_clashes kind) P Q h t = t

pub taken_as_written : (events : List MadeEvent) (store : Store) → AreTaken store events → AreTakenAsWritten store events
unfolding AreTaken AreTakenAsWritten
taken_as_written [] store taken = tt
taken_as_written (event ∷ events) store taken =
    subst (λ (o : EventOutcome (Store × Accepted)). Takes o (λ new. AreTakenAsWritten new events)) (sym (as_written store event taken.0))
    (takes_more (handled store event) (λ new. AreTaken new events) (λ new. AreTakenAsWritten new events) (taken_as_written events) taken.1)
