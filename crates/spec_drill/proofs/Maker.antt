-- The next event of a maker is accepted by the store behind the events that it gave before, or clashes.
use Rattle.std.proofs.Common.{◌≡◌, ◌∙◌, ◌-◌, List, [], ◌∷◌, ◌++◌, Option, Some, None, ap, subst, arith}
use Rattle.bc_words.specs.Events.{EventOutcome, accepted, event_refused, event_limited, event_clashes}
use Rattle.spec_fork_choice.specs.Store.{Store}
use Rattle.spec_fork_choice.specs.GetForkchoiceStore.{genesis_store}
use Rattle.spec_fork_choice.specs.OnEvent.{Accepted, on_event, genesis_clash}
use Rattle.spec_drill.specs.Plan.{Plan, IsPlan, last_slot}
use Rattle.spec_drill.specs.MakeGenesis.{genesis_of_plan}
use Rattle.spec_drill.specs.Make.{MadeEvent, Made, before, made_from, made, kind_of, payload_of}
use Rattle.spec_drill.specs.Taken.{Takes, AreTakenAsWritten, store_then, store_after, IsTakenBy}
use Rattle.spec_drill.specs.Maker.{PlainMaker, to_come, behind, later_slots, new_maker, HasGiven}
use Rattle.spec_drill.proofs.Genesis.{made_is_accepted_as_written}

-- a new maker has all events to come
pub new_has_given : (plan : Plan) → HasGiven [] (new_maker plan)
unfolding new_maker to_come behind later_slots made
new_has_given plan = let e : last_slot plan ≡ last_slot plan - 0 = omega arith in ap (made_from plan (genesis_of_plan plan) 0) e

opens : (o : EventOutcome (Store × Accepted)) (next : Store → Option Store) (s : Store) (P : Store → Type 0) (Q : Type 0) → store_then o next ≡ Some s → Takes o P → ((new : Store) → P new → next new ≡ Some s → Q) → Q
opens (accepted new) next s P Q e t h = h new.0 t e
opens (event_refused why) next s P Q e t h = absurd t
opens (event_limited bound) next s P Q e t h = absurd t
opens (event_clashes kind) next s P Q e t h = absurd cc

closes : (o : EventOutcome (Store × Accepted)) (P : Store → Type 0) → Takes o P → Takes o (λ new. Unit {0})
closes (accepted new) P t = tt
closes (event_refused why) P t = t
closes (event_limited bound) P t = t
closes (event_clashes kind) P t = tt

next_taken : (given later : List MadeEvent) (event : MadeEvent) (store s : Store) → AreTakenAsWritten store (given ++ event ∷ later) → store_after store given ≡ Some s → IsTakenBy s event
unfolding AreTakenAsWritten store_after
next_taken [] later event store s taken e =
    let same : store ≡ s = cc in
    subst (λ (s : Store). IsTakenBy s event) same (closes (on_event store (kind_of event) (payload_of event)) _ taken)
next_taken (first ∷ given) later event store s taken e =
    opens (on_event store (kind_of first) (payload_of first)) (λ new. store_after new given) s _ (IsTakenBy s event) e taken (λ new t e. next_taken given later event new s t e)

-- what next_event's contract cites
pub next_is_accepted : (maker : PlainMaker) (given : List MadeEvent) (event : MadeEvent) (later : Made) (s : Store) → IsPlan maker.plan → genesis_clash (genesis_of_plan maker.plan) ≡ None → HasGiven given maker → to_come maker ≡ before (event ∷ []) later
    → store_after (genesis_store maker.plan.config (genesis_of_plan maker.plan)) given ≡ Some s → IsTakenBy s event
next_is_accepted maker given event later s ok none has next e =
    next_taken given later.events event (genesis_store maker.plan.config (genesis_of_plan maker.plan)) s
    (subst (AreTakenAsWritten (genesis_store maker.plan.config (genesis_of_plan maker.plan))) (ap (λ (m : Made). m.events) (has ∙ ap (before given) next)) (made_is_accepted_as_written maker.plan ok none)) e
