-- The events of a record, one after the other.
use Rattle.std.proofs.Common.{◌≡◌, ◌≢◌, ℕ, ◌+◌, ◌≤◌, Bool, true, false, List, [], ◌∷◌, ◌++◌, length, take, Some, None, Ok, Err, refl, sym, ap, ◌∙◌, append_assoc, append-nil, arith}
use Rattle.bc_outside.specs.Told.{ShelfTold}
use Rattle.bc_outside.specs.Calls.{WritesAll}
use Rattle.bc_outside.specs.declared.trouble.Trouble.{Trouble}
use Rattle.bc_outside.specs.declared.trouble.Trouble.TheVariants as troubles
use Rattle.record_file.proofs.Supplying.{from_none, from_then}
use Rattle.bc_words.specs.Events.{EventOutcome, accepted, event_refused, event_limited, event_clashes}
use Rattle.record_file.specs.Record as record_file
use Rattle.record_file.specs.Record.{Events, with_event}
use Rattle.record_file.specs.Frames.{CanFollow}
use Rattle.record_file.specs.Sources.{Source, NextOf, TakesFrom}
use Rattle.record_file.specs.declared.event.Event.{Event}
use Rattle.record_file.specs.declared.source.SourceStop.{SourceStop}
use Rattle.record_file.specs.declared.source.SourceStop.TheVariants as stops
use Rattle.spec_fork_choice.specs.Store.{Store}
use Rattle.spec_fork_choice.specs.OnEvent.{Accepted}
use Rattle.bc_words.specs.declared.stop.Limit.{Limit}
use Rattle.bc_words.specs.declared.store_stop.ClashKind.{ClashKind}
use Rattle.spec_replay.specs.Run.{Run, End, done, no_command, limited, clash, over, after_lines, event_then, replay_events, record_end, with_events}
use Rattle.spec_replay.specs.Drill.{Tally, with_outcome, tally_of}
use Rattle.one_chain.specs.declared.status.Status.{Status}
use Rattle.one_chain.specs.declared.status.Status.TheVariants as statuses
use Rattle.one_chain.specs.Answers.{breaks_off, may_lack_lines, end_of}
use Rattle.one_chain.specs.inside.Statuses.{no_event, unwritten}
use Rattle.one_chain.specs.inside.Progress.{rest_of, tally_behind, Progress, EventsOver, HasLine, IsCounted, EndsAt, outcome_of}
use Rattle.one_chain.proofs.Reaching.{reaches_none, is_prefix, no_lines, lines_behind, lines_prefix}

-- at the beginning nothing was done
pub no_progress : (tally : Tally) (place : Source) (told : ShelfTold) (written : List ℕ) → Progress tally place told written tally place told written
no_progress tally place told written = record {
  bytes = [];
  taken = from_none place.file told;
  file = refl;
  lines = [];
  wrote = sym (append-nil written);
  comes = λ behind. refl;
  tallies = λ behind. refl;
}

-- no events are to come
none_left : (number : ℕ) (store : Store) (end : record_file.End) → with_events number store (record { events = []; end = end }) ≡ over (record_end 0 end)
unfolding replay_events
none_left number store end = refl

no_more_lines : (number : ℕ) (store : Store) (rest : Events) → rest.events ≡ [] → (with_events number store rest).lines ≡ []
unfolding replay_events
no_more_lines number store rest e = rw e refl

none_counted : (tally : Tally) → tally_of tally [] ≡ tally
unfolding tally_of
none_counted tally = refl

-- the events are at their end
pub over_done : (tally : Tally) (place place_then : Source) (told told_then : ShelfTold) (written : List ℕ) → NextOf (Ok None) place place_then told told_then → EventsOver statuses.Done tally place told told_then written written tally
over_done tally place place_then told told_then written h =
    let store : Store = tally.store in
    let ends : (behind : List ℕ) → CanFollow h.met behind → rest_of store place (h.bytes ++ behind) ≡ over done =
    λ behind can. ap (with_events (place.events + 1) store) (h.supplies behind can) ∙ none_left (place.events + 1) store record_file.done in
    record {
      bytes = h.bytes;
      met = h.met;
      taken = h.taken;
      ended = λ behind can. rw (ends behind can) (record { ends = λ _. refl; lines = no_lines false [] written (reaches_none false) });
      pace = rw (sym (append-nil h.bytes), ends [] (λ _. refl)) (no_lines false [] written (reaches_none false));
      counted = λ is behind can. ap (λ (rest : Events). tally_of tally rest.events) (h.supplies behind can) ∙ none_counted tally;
    }

-- the events end otherwise
over_end : (status : Status) (end : record_file.End) (tally tally_then : Tally) (place : Source) (bytes : List ℕ) (met : Bool) (told told_then : ShelfTold) (written : List ℕ) → TakesFrom place.file bytes met told told_then
    → ((behind : List ℕ) → CanFollow met behind → place.coming (bytes ++ behind) ≡ record { events = []; end = end }) → Some (record_end 0 end) ≡ end_of status → breaks_off status ≡ false → may_lack_lines status ≡ false → (status ≡ statuses.Done → ⊥)
    → EventsOver status tally place told told_then written written tally_then
over_end status end tally tally_then place bytes met told told_then written taken comes ends whole late other =
    let is : (behind : List ℕ) → CanFollow met behind → rest_of tally.store place (bytes ++ behind) ≡ over (record_end 0 end) =
    λ behind can. ap (with_events (place.events + 1) tally.store) (comes behind can) ∙ none_left (place.events + 1) tally.store end in
    record {
      bytes = bytes;
      met = met;
      taken = taken;
      ended = λ behind can. rw (is behind can) (record { ends = λ _. ends; lines = no_lines _ [] written (reaches_none _) });
      pace = rw (sym (append-nil bytes), is [] (λ _. refl)) (no_lines _ [] written (reaches_none _));
      counted = λ is_done. absurd (other is_done);
    }

-- an event could not be read or made
pub over_stop : (stop : SourceStop) (tally tally_then : Tally) (place place_then : Source) (told told_then : ShelfTold) (written : List ℕ) → NextOf (Err stop) place place_then told told_then → EventsOver (no_event stop) tally place told told_then written written tally_then
over_stop (stops.Fault event reason) tally tally_then place place_then told told_then written h =
    over_end (statuses.Record 0 event reason) (record_file.fault event reason) tally tally_then place h.bytes h.met told told_then written h.taken h.supplies refl refl refl (λ is. cc)
over_stop (stops.Limit event bound) tally tally_then place place_then told told_then written h =
    over_end (statuses.Limit 0 event bound) (record_file.limited event bound) tally tally_then place h.bytes h.met told told_then written h.taken h.supplies refl refl refl (λ is. cc)
over_stop stops.ReadFault tally tally_then place place_then told told_then written h =
    let store : Store = tally.store in
    let none : (rest_of store place h.bytes).lines ≡ [] = no_more_lines (place.events + 1) store (place.coming h.bytes) (rw (sym (append-nil h.bytes), h.supplies.1 []) h.supplies.2) in
    record {
      bytes = h.bytes;
      met = false;
      taken = rw h.supplies.0 at h.taken;
      ended = λ behind can. record { ends = λ never. cc; lines = no_lines true _ written (is_prefix 0 _ (omega arith)) };
      pace = rw none (no_lines false [] written (reaches_none false));
      counted = λ is. absurd cc;
    }
over_stop stops.NoMemory tally tally_then place place_then told told_then written h = record {
  bytes = h.bytes;
  met = false;
  taken = rw h.supplies.0 at h.taken;
  ended = λ behind can. record { ends = λ never. cc; lines = no_lines true _ written (is_prefix 0 _ (omega arith)) };
  pace = no_lines true _ written (is_prefix 0 _ (omega arith));
  counted = λ is. absurd cc;
}

-- the run of an event and of those behind it
event_run : (number : ℕ) (old : Store) (event : Event) (rest : Events)
    → with_events number old (with_event event rest) ≡ event_then number event.kind old (outcome_of old event) (λ after. with_events (number + 1) after rest)
unfolding replay_events
event_run number old event rest = refl

-- the counts of an event and of those behind it
event_tally : (tally : Tally) (event : Event) (events : List Event) → tally_of tally (event ∷ events) ≡ tally_of (with_outcome tally (outcome_of tally.store event)) events
unfolding tally_of
event_tally tally event events = refl

module _ (event : Event) (place place_then : Source) (before : Tally) (told told_then : ShelfTold)
    (next : NextOf (Ok (Some event)) place place_then told told_then) (counted : place_then.events ≡ place.events + 1) where
  abbrev old : Store
  old = before.store

  comes : (behind : List ℕ) → rest_of old place (next.bytes ++ behind) ≡ event_then place_then.events event.kind old (outcome_of old event) (λ after. rest_of after place_then behind)
  comes behind = ap (with_events (place.events + 1) old) (next.supplies.1 behind) ∙ rw (← counted) (event_run place_then.events old event (place_then.coming behind))

  tallied : (after : Tally) → IsCounted event before after → (behind : List ℕ) → tally_behind before place (next.bytes ++ behind) ≡ tally_behind after place_then behind
  tallied after is behind = ap (λ (rest : Events). tally_of before rest.events) (next.supplies.1 behind)
      ∙ (event_tally before event (place_then.coming behind).events ∙ ap (λ (tally : Tally). tally_of tally (place_then.coming behind).events) (sym is))

  module _ (after : Tally) (line : List ℕ) (has : HasLine place_then.events event old after.store line) (is : IsCounted event before after) where
    abbrev new : Store
    new = after.store

    comes_behind : (behind : List ℕ) → rest_of old place (next.bytes ++ behind) ≡ after_lines line (rest_of new place_then behind)
    comes_behind behind = comes behind ∙ has (λ after. rest_of after place_then behind)

    -- the line was written
    pub line_progress : (written written_then : List ℕ) → place_then.file ≡ place.file → WritesAll {V = Unit {0}} line (Ok tt) (record { taken = written; faults = 0; reliable = true }) (record { taken = written_then; faults = 0; reliable = true })
        → Progress before place told written after place_then told_then written_then
    line_progress written written_then file wrote = record {
      bytes = next.bytes;
      taken = rw next.supplies.0 at next.taken;
      file = file;
      lines = line;
      wrote = wrote;
      comes = comes_behind;
      tallies = tallied after is;
    }

    -- a prefix of the line was written
    prefix_over : (status : Status) (n : ℕ) (written written_then : List ℕ) → breaks_off status ≡ true → may_lack_lines status ≡ true → n ≤ length line → written_then ≡ written ++ take n line
        → EventsOver status before place told told_then written written_then after
    prefix_over status n written written_then off late within wrote = record {
      bytes = next.bytes;
      met = false;
      taken = rw next.supplies.0 at next.taken;
      ended = λ behind can. record {
        ends = λ never. absurd (let no : true ≡ false = sym off ∙ never in cc);
        lines = rw (off, comes_behind behind) (lines_prefix line _ n within wrote);
      };
      pace = rw (late, sym (append-nil next.bytes), comes_behind []) (lines_prefix line _ n within wrote);
      counted = λ is_done. absurd (let no : true ≡ false = sym off ∙ ap breaks_off is_done in cc);
    }

    -- the line could not be written
    pub line_over : (trouble : Trouble) (written written_then : List ℕ) → WritesAll {V = Unit {0}} line (Err trouble) (record { taken = written; faults = 0; reliable = true }) (record { taken = written_then; faults = 0; reliable = true })
        → EventsOver (unwritten trouble) before place told told_then written written_then after
    line_over troubles.Failed written written_then wrote = prefix_over statuses.WriteFault wrote.0 written written_then refl refl wrote.1 wrote.2
    line_over troubles.NoMemory written written_then wrote = prefix_over statuses.NoMemory wrote.0 written written_then refl refl wrote.1 wrote.2

  -- the run is over at the event, before its line
  at_event : (status : Status) (end : End) (written : List ℕ) → ((rest : Store → Run) → event_then place_then.events event.kind old (outcome_of old event) rest ≡ over end) → Some end ≡ end_of status → breaks_off status ≡ false → may_lack_lines status ≡ false → (status ≡ statuses.Done → ⊥)
      → (after : Tally) → EventsOver status before place told told_then written written after
  at_event status end written is ends whole late other after = record {
    bytes = next.bytes;
    met = false;
    taken = rw next.supplies.0 at next.taken;
    ended = λ behind can. rw (comes behind ∙ is (λ after. rest_of after place_then behind)) (record { ends = λ _. ends; lines = no_lines _ [] written (reaches_none _) });
    pace = rw (sym (append-nil next.bytes), comes [] ∙ is (λ after. rest_of after place_then [])) (no_lines _ [] written (reaches_none _));
    counted = λ is_done. absurd (other is_done);
  }

  limited_then : (number kind : ℕ) (outcome : EventOutcome (Store × Accepted)) (bound : Limit) → outcome ≡ event_limited bound → (rest : Store → Run) → event_then number kind old outcome rest ≡ over (limited 0 number bound)
  unfolding event_then
  limited_then number kind outcome bound is rest = rw is refl

  clashing_then : (number kind : ℕ) (outcome : EventOutcome (Store × Accepted)) (clashing : ClashKind) → outcome ≡ event_clashes clashing → (rest : Store → Run) → event_then number kind old outcome rest ≡ over (clash 0 number clashing 0)
  unfolding event_then
  clashing_then number kind outcome clashing is rest = rw is refl

  pub over_at : (status : Status) (written : List ℕ) (after : Tally) → EndsAt status place_then.events (outcome_of old event) → EventsOver status before place told told_then written written after
  over_at (statuses.Limit which at bound) written after h =
      at_event (statuses.Limit which at bound) (limited 0 place_then.events bound) written (limited_then place_then.events event.kind (outcome_of old event) bound h.2) (rw (h.0, h.1) refl) refl refl (λ is. cc) after
  over_at (statuses.Clash which at kind kept_which) written after h =
      at_event (statuses.Clash which at kind kept_which) (clash 0 place_then.events kind 0) written (clashing_then place_then.events event.kind (outcome_of old event) kind h.3) (rw (h.0, h.1, h.2) refl) refl refl (λ is. cc) after
  over_at statuses.NoMemory written after h = record {
    bytes = next.bytes;
    met = false;
    taken = rw next.supplies.0 at next.taken;
    ended = λ behind can. record { ends = λ never. cc; lines = no_lines true _ written (is_prefix 0 _ (omega arith)) };
    pace = no_lines true _ written (is_prefix 0 _ (omega arith));
    counted = λ is. absurd cc;
  }
  over_at statuses.Done written after h = absurd h
  over_at statuses.Words written after h = absurd h
  over_at (statuses.Config fault) written after h = absurd h
  over_at (statuses.Genesis part) written after h = absurd h
  over_at (statuses.Record which at fault) written after h = absurd h
  over_at statuses.ReadFault written after h = absurd h
  over_at statuses.WriteFault written after h = absurd h
  over_at (statuses.Deposits fault) written after h = absurd h
  over_at (statuses.Duties fault) written after h = absurd h
  over_at (statuses.Anchor fault) written after h = absurd h

-- one step more
pub progress_then : {tally mid next : Tally} {place place_mid place_next : Source} {s t u : ShelfTold} {w x y : List ℕ} → Progress tally place s w mid place_mid t x → Progress mid place_mid t x next place_next u y → Progress tally place s w next place_next u y
progress_then {tally} {mid} {next} {place} {place_mid} {place_next} {s} {t} {u} {w} {x} {y} h k = record {
  bytes = h.bytes ++ k.bytes;
  taken = from_then place.file h.bytes k.bytes false s t u h.taken (rw h.file at k.taken);
  file = k.file ∙ h.file;
  lines = h.lines ++ k.lines;
  wrote = k.wrote ∙ ap (λ bs. bs ++ k.lines) h.wrote ∙ append_assoc w h.lines k.lines;
  comes = λ behind. ap (rest_of tally.store place) (append_assoc h.bytes k.bytes behind) ∙ h.comes (k.bytes ++ behind) ∙ ap (after_lines h.lines) (k.comes behind)
      ∙ ap (λ (lines : List ℕ). record { lines = lines; end = (rest_of next.store place_next behind).end; files = (rest_of next.store place_next behind).files }) (sym (append_assoc h.lines k.lines (rest_of next.store place_next behind).lines));
  tallies = λ behind. ap (tally_behind tally place) (append_assoc h.bytes k.bytes behind) ∙ (h.tallies (k.bytes ++ behind) ∙ k.tallies behind);
}

-- the run is over behind some events
pub over_then : {status : Status} {tally mid tally_then : Tally} {place place_mid : Source} {s t u : ShelfTold} {w x y : List ℕ} → Progress tally place s w mid place_mid t x → EventsOver status mid place_mid t u x y tally_then → EventsOver status tally place s u w y tally_then
over_then {status} {tally} {mid} {tally_then} {place} {place_mid} {s} {t} {u} {w} {x} {y} h k = record {
  bytes = h.bytes ++ k.bytes;
  met = k.met;
  taken = from_then place.file h.bytes k.bytes k.met s t u h.taken (rw h.file at k.taken);
  ended = λ behind can.
      let is = ap (rest_of tally.store place) (append_assoc h.bytes k.bytes behind) ∙ h.comes (k.bytes ++ behind) in
      let e = k.ended behind can in
      rw is (record { ends = e.ends; lines = lines_behind (breaks_off status) h.lines (rest_of mid.store place_mid (k.bytes ++ behind)).lines h.wrote e.lines });
  pace = rw (h.comes k.bytes) (lines_behind (may_lack_lines status) h.lines (rest_of mid.store place_mid k.bytes).lines h.wrote k.pace);
  counted = λ is behind can. ap (tally_behind tally place) (append_assoc h.bytes k.bytes behind) ∙ (h.tallies (k.bytes ++ behind) ∙ k.counted is behind can);
}

-- events ask for no file
event_then-files : (number kind : ℕ) (old : Store) (outcome : EventOutcome (Store × Accepted)) (rest : Store → Run) → ((after : Store) → (rest after).files ≡ 0) → (event_then number kind old outcome rest).files ≡ 0
unfolding event_then
event_then-files number kind old (accepted new) rest none = none new.0
event_then-files number kind old (event_refused why) rest none = none old
event_then-files number kind old (event_limited bound) rest none = refl
event_then-files number kind old (event_clashes clashing) rest none = refl

replay_events-files : (number : ℕ) (store : Store) (events : List Event) (end : End) → (replay_events number store events end).files ≡ 0
unfolding replay_events
replay_events-files number store [] end = refl
replay_events-files number store (event ∷ events) end =
    event_then-files number event.kind store (outcome_of store event) (λ after. replay_events (number + 1) after events end) (λ after. replay_events-files (number + 1) after events end)

pub with_events-files : (number : ℕ) (store : Store) (rest : Events) → (with_events number store rest).files ≡ 0
with_events-files number store rest = replay_events-files number store rest.events (record_end 0 rest.end)

-- a run of events doesn't end as one of words that are no command
event_then-command : (number kind : ℕ) (old : Store) (outcome : EventOutcome (Store × Accepted)) (rest : Store → Run) → ((after : Store) → (rest after).end ≡ Some no_command → ⊥) → (event_then number kind old outcome rest).end ≡ Some no_command → ⊥
unfolding event_then
event_then-command number kind old (accepted new) rest never e = never new.0 e
event_then-command number kind old (event_refused why) rest never e = never old e
event_then-command number kind old (event_limited bound) rest never e = cc
event_then-command number kind old (event_clashes clashing) rest never e = cc

never_no_command : (number : ℕ) (store : Store) (events : List Event) (end : record_file.End) → (replay_events number store events (record_end 0 end)).end ≡ Some no_command → ⊥
unfolding replay_events
never_no_command number store [] record_file.done e = cc
never_no_command number store [] (record_file.fault event reason) e = cc
never_no_command number store [] (record_file.limited event bound) e = cc
never_no_command number store (event ∷ events) end e =
    event_then-command number event.kind store (outcome_of store event) (λ after. replay_events (number + 1) after events (record_end 0 end)) (λ after. never_no_command (number + 1) after events end) e

pub over_command : (status : Status) (tally tally_then : Tally) (place : Source) (told told_then : ShelfTold) (written written_then : List ℕ) → EventsOver status tally place told told_then written written_then tally_then → status ≢ statuses.Words
over_command status tally tally_then place told told_then written written_then h = λ is.
    let e = (h.ended [] (λ _. refl)).ends (rw is refl) in
    never_no_command (place.events + 1) tally.store (place.coming (h.bytes ++ [])).events (place.coming (h.bytes ++ [])).end (rw is at e)
