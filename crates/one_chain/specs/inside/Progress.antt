-- What was done of the events of a source, and what is still to come.
use Rattle.std.specs.Prelude.{◌≡◌, ℕ, ◌+◌, ◌≤◌, Bool, false, List, ◌++◌}
use Rattle.bc_outside.specs.Told.{ShelfTold}
use Rattle.record_file.specs.Record.{most_events}
use Rattle.record_file.specs.Frames.{CanFollow}
use Rattle.record_file.specs.Sources.{Source, TakesFrom}
use Rattle.record_file.specs.declared.event.Event.{Event}
use Rattle.bc_words.specs.Events.{EventOutcome, event_limited, event_clashes}
use Rattle.spec_fork_choice.specs.Store.{Store}
use Rattle.spec_fork_choice.specs.OnEvent.{Accepted, on_event}
use Rattle.spec_replay.specs.Run.{Run, after_lines, event_then, with_events}
use Rattle.spec_replay.specs.Drill.{Tally, with_outcome, tally_of}
use Rattle.one_chain.specs.declared.events.Counts.{Counts}
use Rattle.one_chain.specs.declared.status.Status.{Status}
use Rattle.one_chain.specs.declared.status.Status.TheVariants as statuses
use Rattle.one_chain.specs.Answers.{breaks_off, may_lack_lines, end_of, WritesLines}

-- the run of the events that are to come, where these bytes are those that can still be taken
abbrev pub rest_of : Store → Source → List ℕ → Run
rest_of store place behind = with_events (place.events + 1) store (place.coming behind)

-- the store with the counts of its events
abbrev pub tally_at : Store → Counts → Tally
tally_at store counts = record { store = store; events = counts.events; accepted = counts.accepted }

-- what they are behind the events that are to come
abbrev pub tally_behind : Tally → Source → List ℕ → Tally
tally_behind tally place behind = tally_of tally (place.coming behind).events

-- what the store's handler gives of an event
abbrev pub outcome_of : Store → Event → EventOutcome (Store × Accepted)
outcome_of store event = on_event store event.kind event.payload

-- The event with this number has this line, and the store after it is the second one.
abbrev pub HasLine : ℕ → Event → Store → Store → List ℕ → Type 0
HasLine number event old new line = (rest : Store → Run) → event_then number event.kind old (outcome_of old event) rest ≡ after_lines line (rest new)

-- The event is counted, and the store after it is that of the second tally.
abbrev pub IsCounted : Event → Tally → Tally → Type 0
IsCounted event old new = new ≡ with_outcome old (outcome_of old.store event)

-- The run ends at the event with this number with this status: at a bound, a clash, or for want of memory.
abbrev pub EndsAt : Status → ℕ → EventOutcome (Store × Accepted) → Type 0
EndsAt (statuses.Limit which event limit) number outcome = (which ≡ 0) × (event ≡ number) × (outcome ≡ event_limited limit)
EndsAt (statuses.Clash which event kind kept_which) number outcome = (which ≡ 0) × (event ≡ number) × (kept_which ≡ 0) × (outcome ≡ event_clashes kind)
EndsAt statuses.NoMemory number outcome = Unit {0}
EndsAt _ number outcome = ⊥

-- Bytes were taken, the lines of the events in front were written, and the run of the others is to come.
pub record Progress (tally : Tally) (place : Source) (told : ShelfTold) (written : List ℕ)
    (tally_then : Tally) (place_then : Source) (told_then : ShelfTold) (written_then : List ℕ) : Type 0 where
  pub bytes : List ℕ
  pub taken : TakesFrom place.file bytes false told told_then
  pub file : place_then.file ≡ place.file
  pub lines : List ℕ
  pub wrote : written_then ≡ written ++ lines
  pub comes : (behind : List ℕ) → rest_of tally.store place (bytes ++ behind) ≡ after_lines lines (rest_of tally_then.store place_then behind)
  pub tallies : (behind : List ℕ) → tally_behind tally place (bytes ++ behind) ≡ tally_behind tally_then place_then behind

-- one event more was read, and there are not more than a record may have
pub record OneMore (place place_then : Source) : Type 0 where
  pub events : place_then.events ≡ place.events + 1
  pub within : place_then.events ≤ most_events

-- What became of a run whose files are all opened.
pub record Ended (status : Status) (run : Run) (written written_then : List ℕ) : Type 0 where
  pub ends : breaks_off status ≡ false → run.end ≡ end_of status
  pub lines : WritesLines (breaks_off status) run.lines written written_then

-- The run of the events is over. It became so whatever stands behind the bytes that were taken, and the lines keep pace
-- with these. Where the events were at their end, all of them are counted.
pub record EventsOver (status : Status) (tally : Tally) (place : Source) (told told_then : ShelfTold) (written written_then : List ℕ) (tally_then : Tally) : Type 0 where
  pub bytes : List ℕ
  pub met : Bool
  pub taken : TakesFrom place.file bytes met told told_then
  pub ended : (behind : List ℕ) → CanFollow met behind → Ended status (rest_of tally.store place (bytes ++ behind)) written written_then
  pub pace : WritesLines (may_lack_lines status) (rest_of tally.store place bytes).lines written written_then
  pub counted : status ≡ statuses.Done → (behind : List ℕ) → CanFollow met behind → tally_behind tally place (bytes ++ behind) ≡ tally_then
