-- How far a record was read, and what is still to come.
use Rattle.std.specs.Prelude.{◌≡◌, ℕ, ◌+◌, ◌-◌, ◌≤◌, Bool, true, false, List, [], ◌++◌, length, Option, Some, None, Result, Ok, Err}
use Rattle.bc_outside.specs.Told.{ShelfTold}
use Rattle.bc_outside.specs.Calls.{Takes}
use Rattle.record_file.specs.declared.event.Event.{Event}
use Rattle.record_file.specs.declared.fault.RecordFault.{RecordFault}
use Rattle.record_file.specs.declared.fault.FrameStop.{FrameStop}
use Rattle.record_file.specs.declared.fault.FrameStop.TheVariants.{Fault, ReadFault, NoMemory}
use Rattle.record_file.specs.declared.place.Place.{Place}
use Rattle.record_file.specs.declared.version.Version.{Version}
use Rattle.record_file.specs.declared.place.Place.TheVariants.{AtMagic, AtFrame, Stopped}
use Rattle.record_file.specs.Record.{Events, done, fault, fault_event, events_from, events_of, most_events, longest_payload, is_kind_of, with_event}

-- The file, how many events were read of it, where the next call stands, and the bytes that were taken of the file and
-- not read yet.
pub record Reading : Type 0 where
  pub file : ℕ
  pub events : ℕ
  pub place : Place
  pub buffered : List ℕ

-- nothing is read yet
abbrev pub unread_file : ℕ → Reading
unread_file file = record { file = file; events = 0; place = AtMagic; buffered = [] }

-- what these bytes are at a place, behind that many events
unfoldable pub events_at : Place → ℕ → List ℕ → Events
events_at AtMagic events bytes = events_of bytes
events_at (AtFrame version) events bytes = events_from version (most_events - events) events bytes
events_at (Stopped reason) events bytes = record { events = []; end = fault (fault_event events reason) reason }

-- what is still to come, where the buffered bytes and these behind them are the rest of the record
abbrev pub coming : Reading → List ℕ → Events
coming reading behind = events_at reading.place reading.events (reading.buffered ++ behind)

-- What is still to come stays the same while bytes are taken of the file, whatever stands behind them.
abbrev pub Comes : List ℕ → Reading → Reading → Type 0
Comes bytes old new = (behind : List ℕ) → coming old (bytes ++ behind) ≡ coming new behind

-- the bytes that can stand behind those that were taken: none where the file's end was met
abbrev pub CanFollow : Bool → List ℕ → Type 0
CanFollow met behind = met ≡ true → behind ≡ []

-- What `next` answers where these bytes were taken of the file, and its end was met or not: the next event, the end, or
-- the fault, of whatever record begins so. Where the shelf fails or memory runs out, the same is still to come, and no
-- event is whole in the bytes taken where the shelf fails.
abbrev pub Gives : Result (Option Event) FrameStop → List ℕ → Bool → Reading → Reading → Type 0
Gives (Ok (Some event)) bytes met old new = (met ≡ false) × ((behind : List ℕ) → coming old (bytes ++ behind) ≡ with_event event (coming new behind))
Gives (Ok None) bytes met old new = (met ≡ true) × Comes bytes old new × (coming new [] ≡ record { events = []; end = done })
Gives (Err (Fault reason)) bytes met old new = (behind : List ℕ) → CanFollow met behind → coming old (bytes ++ behind) ≡ record { events = []; end = fault (fault_event old.events reason) reason }
Gives (Err ReadFault) bytes met old new = (met ≡ false) × Comes bytes old new × ((coming new []).events ≡ [])
Gives (Err NoMemory) bytes met old new = (met ≡ false) × Comes bytes old new

-- What `next` took of the file, and what it answers.
pub record Nexts (result : Result (Option Event) FrameStop) (old new : Reading) (told told_then : ShelfTold) : Type 0 where
  pub bytes : List ℕ
  pub met : Bool
  pub taken : Takes old.file bytes met told told_then
  pub gives : Gives result bytes met old new

-- a place stands at a frame of a version
abbrev pub IsAtFrame : Place → (Version → Type 0) → Type 0
IsAtFrame AtMagic P = ⊥
IsAtFrame (AtFrame version) P = P version
IsAtFrame (Stopped reason) P = ⊥

-- What `next` does to the place.
abbrev pub Moves : Result (Option Event) FrameStop → Reading → Reading → Type 0
Moves (Ok (Some event)) before now = (now.events ≡ before.events + 1) × IsAtFrame now.place (λ version. is_kind_of version event.kind ≡ true) × (length event.payload ≤ longest_payload)
Moves (Ok None) before now = (now.events ≡ before.events) × IsAtFrame now.place (λ version. Unit {0})
Moves (Err (Fault reason)) before now = (now.events ≡ before.events) × (now.place ≡ Stopped reason)
Moves (Err _) before now = now.events ≡ before.events

-- a fact of the fault that reading stopped at, if it did
abbrev pub IfStopped : Place → (RecordFault → Type 0) → Type 0
IfStopped AtMagic P = Unit {0}
IfStopped (AtFrame version) P = Unit {0}
IfStopped (Stopped reason) P = P reason

-- what is true of each place: no event was read before the magic, and there are never more than a record may have
abbrev pub IsPlace : Place → ℕ → Type 0
IsPlace AtMagic events = events ≡ 0
IsPlace (AtFrame version) events = events ≤ most_events
IsPlace (Stopped reason) events = events ≤ most_events
