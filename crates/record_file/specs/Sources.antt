-- What a run sees of the place where its events come from: a record of a shelf, or events that are made.
use Rattle.std.specs.Prelude.{◌≡◌, ℕ, ◌+◌, ◌<◌, ◌≤◌, Bool, false, List, [], ◌++◌, length, Option, Some, None, Result, Ok, Err}
use Rattle.bc_outside.specs.Told.{ShelfTold}
use Rattle.bc_outside.specs.Calls.{Takes}
use Rattle.record_file.specs.declared.event.Event.{Event}
use Rattle.record_file.specs.declared.source.SourceStop.{SourceStop}
use Rattle.record_file.specs.declared.source.SourceStop.TheVariants.{Fault, Limit, ReadFault, NoMemory}
use Rattle.record_file.specs.Record.{Events, done, fault, limited, most_events, with_event}
use Rattle.record_file.specs.Frames.{Reading, CanFollow, coming}

-- What is still to come, where these bytes are those that can still be taken; how many events were given; and the file of the
-- shelf that it reads, if it reads one.
pub record Source : Type 0 where
  pub coming : List ℕ → Events
  pub events : ℕ
  pub file : Option ℕ

-- a record that was read so far
abbrev pub record_source : Reading → Source
record_source r = record { coming = coming r; events = r.events; file = Some r.file }

-- the file that is read, if there is one, was opened
abbrev pub IsOpenedFile : Option ℕ → ShelfTold → Type 0
IsOpenedFile None told = Unit {0}
IsOpenedFile (Some file) told = file < length told.files

-- These bytes were taken of the file. Where there is none, no byte was taken.
abbrev pub TakesFrom : Option ℕ → List ℕ → Bool → ShelfTold → ShelfTold → Type 0
TakesFrom None bytes met told told_then = (bytes ≡ []) × (told_then ≡ told)
TakesFrom (Some file) bytes met told told_then = Takes file bytes met told told_then

-- What is still to come stays the same while bytes are taken.
abbrev pub StillComes : List ℕ → Source → Source → Type 0
StillComes bytes old new = (behind : List ℕ) → old.coming (bytes ++ behind) ≡ new.coming behind

-- What the next call answers where these bytes were taken, and their end was met or not: the next event, the end, or the
-- fault or the bound, with the number of its event. Where the shelf fails or memory runs out, the same is still to come, and no
-- event is whole in the bytes taken where the shelf fails.
abbrev pub Supplies : Result (Option Event) SourceStop → List ℕ → Bool → Source → Source → Type 0
Supplies (Ok (Some event)) bytes met old new = (met ≡ false) × ((behind : List ℕ) → old.coming (bytes ++ behind) ≡ with_event event (new.coming behind))
Supplies (Ok None) bytes met old new = (behind : List ℕ) → CanFollow met behind → old.coming (bytes ++ behind) ≡ record { events = []; end = done }
Supplies (Err (Fault event reason)) bytes met old new = (behind : List ℕ) → CanFollow met behind → old.coming (bytes ++ behind) ≡ record { events = []; end = fault event reason }
Supplies (Err (Limit event bound)) bytes met old new = (behind : List ℕ) → CanFollow met behind → old.coming (bytes ++ behind) ≡ record { events = []; end = limited event bound }
Supplies (Err ReadFault) bytes met old new = (met ≡ false) × StillComes bytes old new × ((new.coming []).events ≡ [])
Supplies (Err NoMemory) bytes met old new = (met ≡ false) × StillComes bytes old new

-- What the next call took, and what it answers.
pub record NextOf (result : Result (Option Event) SourceStop) (old new : Source) (told told_then : ShelfTold) : Type 0 where
  pub bytes : List ℕ
  pub met : Bool
  pub taken : TakesFrom old.file bytes met told told_then
  pub supplies : Supplies result bytes met old new

-- Only an event that was given counts, and there are not more than a record may have.
abbrev pub Counts : Result (Option Event) SourceStop → Source → Source → Type 0
Counts (Ok (Some event)) old new = (new.events ≡ old.events + 1) × (new.events ≤ most_events)
Counts (Ok None) old new = new.events ≡ old.events
Counts (Err stop) old new = new.events ≡ old.events
