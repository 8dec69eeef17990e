-- What a maker gives, as a source of events gives it.
use Rattle.std.proofs.Common.{◌≡◌, ◌∙◌, ℕ, suc, ◌+◌, ◌≤◌, true, false, List, [], ◌∷◌, length, Some, None, Ok, Err, refl, sym, ap, subst, arith}
use Rattle.bc_words.specs.Outcome.{Outcome, done, limited}
use Rattle.bc_words.specs.declared.stop.Stop.{Stop}
use Rattle.bc_words.specs.declared.stop.Stop.TheVariants as stops
use Rattle.bc_outside.specs.Told.{ShelfTold}
use Rattle.record_file.specs.Record.{Events, with_event, is_kind, most_events}
use Rattle.record_file.specs.Sources.{NextOf}
use Rattle.record_file.specs.Stops.{SourceStopsBy}
use Rattle.record_file.specs.declared.event.Event.{Event}
use Rattle.spec_drill.specs.Plan.{IsPlan}
use Rattle.spec_drill.specs.Make.{MadeEvent, Made, before, kind_of, payload_of, made}
use Rattle.spec_drill.specs.Make as makes
use Rattle.spec_drill.specs.AsEvents.{event_of, end_of, events_to_come}
use Rattle.spec_drill.specs.Maker.{PlainMaker, to_come, new_maker}
use Rattle.spec_drill.proofs.Few.{few_made}
use Rattle.spec_drill.proofs.Maker.{new_has_given}
use Rattle.chain_maker.specs.Next.{NextIs, Writes}
use Rattle.chain_maker.specs.Source.{begun, made_source, IsShort}
use Rattle.chain_maker.specs.inside.Stops.{CanStop, stop_of}

-- an event that comes first
next_of : (given : ℕ) (event : MadeEvent) (later : Made) → events_to_come given (before (event ∷ []) later) ≡ with_event (event_of event) (events_to_come (given + 1) later)
unfolding events_to_come
next_of given event later =
    let same : given + suc (length later.events) + 1 ≡ given + 1 + length later.events + 1 = omega arith in
    ap (λ (number : ℕ). let rest : Events = record { events = event_of event ∷ (events_to_come (given + 1) later).events; end = end_of number later.end } in rest) same

none_of : (given : ℕ) (end : Outcome (Unit {0})) → events_to_come given (record { events = []; end = end }) ≡ record { events = []; end = end_of (given + 1) end }
unfolding events_to_come
none_of given end =
    let same : given + 0 + 1 ≡ given + 1 = omega arith in
    ap (λ (number : ℕ). let rest : Events = record { events = []; end = end_of number end } in rest) same

written_as : (event : Event) (made : MadeEvent) → Writes event made → event ≡ event_of made
written_as event made is = ap (λ (kind : ℕ). let e : Event = record { kind = kind; payload = event.payload } in e) is.kind
    ∙ ap (λ (payload : List ℕ). let e : Event = record { kind = kind_of made; payload = payload } in e) is.payload

is_a_kind : (made : MadeEvent) → is_kind (kind_of made) ≡ true
unfolding kind_of
is_a_kind (makes.tick time) = refl
is_a_kind (makes.block signed) = refl
is_a_kind (makes.wire attestation) = refl
is_a_kind (makes.carried attestation) = refl

module _ (old new : PlainMaker) (given : ℕ) where
  -- ---- an event is given
  module _ (event : Event) (next : NextIs (Ok (Some event)) old new) where
    pub given_next : (s : ShelfTold) → NextOf (Ok (Some event)) (made_source (record { maker = old; given = given })) (made_source (record { maker = new; given = given + 1 })) s s
    given_next s = record {
      bytes = [];
      met = false;
      taken = (refl, refl);
      supplies = (
        refl,
        λ behind. ap (events_to_come given) next.2 ∙ (next_of given next.0 (to_come new) ∙ ap (λ (e : Event). with_event e (events_to_come (given + 1) (to_come new))) (sym (written_as event next.0 next.1))),
      );
    }

    pub given_kind : is_kind event.kind ≡ true
    given_kind = subst (λ (kind : ℕ). is_kind kind ≡ true) (sym next.1.kind) (is_a_kind next.0)

    one_less : length (to_come old).events ≡ suc (length (to_come new).events)
    one_less = ap (λ (m : Made). length m.events) next.2

    pub still_short : IsShort (record { maker = old; given = given }) → IsShort (record { maker = new; given = given + 1 })
    still_short short = record { few = let few = short.few in let less = one_less in omega arith }

    pub counts_one : IsShort (record { maker = old; given = given }) → given + 1 ≤ most_events
    counts_one short = let few = short.few in let less = one_less in omega arith

  -- ---- none is
  pub none_next : (s : ShelfTold) → NextIs (Ok None) old new → NextOf (Ok None) (made_source (record { maker = old; given = given })) (made_source (record { maker = new; given = given })) s s
  none_next s next = record { bytes = []; met = false; taken = (refl, refl); supplies = λ behind can. ap (events_to_come given) next.0 ∙ none_of given (done tt) }

  pub stop_next : (stop : Stop) (s : ShelfTold) → NextIs (Err stop) old new
      → NextOf (Err (stop_of given stop)) (made_source (record { maker = old; given = given })) (made_source (record { maker = new; given = given })) s s
  stop_next (stops.Refused why) s next = absurd next
  stop_next (stops.Limit bound) s next = record { bytes = []; met = false; taken = (refl, refl); supplies = λ behind can. ap (events_to_come given) next.1 ∙ none_of given (limited bound) }
  stop_next stops.NoMemory s next = record {
    bytes = [];
    met = false;
    taken = (refl, refl);
    supplies = (refl, λ behind. ap (λ (m : PlainMaker). events_to_come given (to_come m)) (sym next));
  }

  pub can_stop : (stop : Stop) → NextIs (Err stop) old new → CanStop stop
  can_stop (stops.Refused why) next = next
  can_stop (stops.Limit bound) next = tt
  can_stop stops.NoMemory next = tt

-- no shelf is at fault
pub stop_causes : (T : Type 0) (given : ℕ) (stop : Stop) (faults : ℕ) → SourceStopsBy {T = T} (Err (stop_of given stop)) faults faults
stop_causes T given (stops.Refused why) faults = omega arith
stop_causes T given (stops.Limit bound) faults = omega arith
stop_causes T given stops.NoMemory faults = omega arith

-- a new maker's chain is short
pub begun_short : (maker : PlainMaker) → maker ≡ new_maker maker.plan → IsPlan maker.plan → IsShort (begun maker)
unfolding new_maker
begun_short maker same ok = record {
  few =
      let few = few_made maker.plan ok in
      let all : length (made maker.plan).events ≡ length (to_come (new_maker maker.plan)).events = ap (λ (m : Made). length m.events) (new_has_given maker.plan) in
      let is : length (to_come maker).events ≡ length (to_come (new_maker maker.plan)).events = ap (λ (m : PlainMaker). length (to_come m).events) same in
      omega arith;
}
