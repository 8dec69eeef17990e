-- The bytes of a record with given events.
use Rattle.std.specs.Prelude.{◌≡◌, ℕ, ◌≤◌, true, List, [], ◌∷◌, ◌++◌, length}
use Rattle.std.specs.Int.{w32, to_le_bytes}
use Rattle.record_file.specs.declared.event.Event.{Event}
use Rattle.record_file.specs.declared.version.Version.{Version}
use Rattle.record_file.specs.declared.version.Version.TheVariants.{One, Two}
use Rattle.record_file.specs.declared.fault.RecordFault.TheVariants.{BadKind}
use Rattle.record_file.specs.Record.{done, fault, magic, is_kind_of, most_events, longest_payload, events_of}

-- the frame of an event: its kind, the length of its payload, and the payload
abbrev pub frame_of_event : Event → List ℕ
frame_of_event event = (event.kind ∷ to_le_bytes w32 (length event.payload)) ++ event.payload

-- the frames of these events, one behind the other
unfoldable pub frames_of_events : List Event → List ℕ
frames_of_events [] = []
frames_of_events (event ∷ events) = frame_of_event event ++ frames_of_events events

-- events that a record of a version may have
unfoldable pub AreEvents : Version → List Event → Type 0
AreEvents version [] = Unit {0}
AreEvents version (event ∷ events) = (is_kind_of version event.kind ≡ true) × (length event.payload ≤ longest_payload) × AreEvents version events

-- The record of these events reads as these events, to its end.
abbrev pub ReadsAgain : Type 0
ReadsAgain = (version : Version) (events : List Event) → AreEvents version events → length events ≤ most_events → events_of (magic version ++ frames_of_events events) ≡ record { events = events; end = done }

-- The same bytes behind the first four are the same events in both versions, unless in version 1 they end at a frame of kind 5.
abbrev pub ReadsAlike : Type 0
ReadsAlike = (bytes : List ℕ) → ((event : ℕ) → (events_of (magic One ++ bytes)).end ≡ fault event (BadKind 5) → ⊥) → events_of (magic Two ++ bytes) ≡ events_of (magic One ++ bytes)
