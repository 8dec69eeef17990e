-- The grammar of a record: the four bytes `BCR1` or `BCR2`, by its version, then frames until the end of the file. A frame is a
-- kind (1 byte), a length (4 bytes, little endian) and a payload of that many bytes. Each frame is an event, and events count from 1.
use Rattle.std.specs.Prelude.{ℕ, zero, suc, ◌+◌, Bool, ◌&&◌, List, [], ◌∷◌, length, take, drop, nat_lt, nat_le, Option, Some, None, if◌then◌else◌}
use Rattle.std.specs.Int.{w32, from_le_bytes}
use Rattle.std.specs.Str.{bytes_eq}
use Rattle.bc_words.specs.declared.stop.Limit.{Limit}
use Rattle.record_file.specs.declared.event.Event.{Event}
use Rattle.record_file.specs.declared.version.Version.{Version}
use Rattle.record_file.specs.declared.version.Version.TheVariants.{One, Two}
use Rattle.record_file.specs.declared.fault.RecordFault.{RecordFault}
use Rattle.record_file.specs.declared.fault.RecordFault.TheVariants.{BadMagic, TooMany, BadKind, Torn, TooLong}

-- the bytes that a record of a version begins with: `BCR1` or `BCR2`
abbrev pub magic : Version → List ℕ
magic One = 66 ∷ 67 ∷ 82 ∷ 49 ∷ []
magic Two = 66 ∷ 67 ∷ 82 ∷ 50 ∷ []

-- the version of a record with these first bytes, if they are one's
abbrev pub version_of : List ℕ → Option Version
version_of bytes =
    if bytes_eq bytes (magic One) then Some One
    else if bytes_eq bytes (magic Two) then Some Two
    else None

-- the kinds of frames: 1 is a tick, 2 a signed block, 3 an attestation from the wire, 4 an attestation from a block, and in version
-- 2 alone 5 is an attester slashing
abbrev pub last_kind : Version → ℕ
last_kind One = 4
last_kind Two = 5

abbrev pub is_kind_of : Version → ℕ → Bool
is_kind_of version kind = nat_le 1 kind && nat_le kind (last_kind version)

-- the kinds of events, whatever the version
abbrev pub is_kind : ℕ → Bool
is_kind kind = is_kind_of Two kind

-- how many events a record may have
abbrev pub most_events : ℕ
most_events = 4194304

-- how many bytes a payload may have
abbrev pub longest_payload : ℕ
longest_payload = 4194304

-- What stands at a place of a record: its end, a fault, or a frame with the bytes behind it.
pub data FrameRead : Type 0 where
  ended : FrameRead
  faulted : RecordFault → FrameRead
  framed : Event → List ℕ → FrameRead

-- behind the length: the payload, or Torn where it is cut
unfoldable pub payload_of : ℕ → ℕ → List ℕ → FrameRead
payload_of kind size bytes =
    if nat_lt longest_payload size then faulted (TooLong size)
    else if nat_lt (length bytes) size then faulted Torn
    else framed (record { kind = kind; payload = take size bytes }) (drop size bytes)

-- behind the kind: the length, or Torn where it is cut
unfoldable pub sized_of : ℕ → List ℕ → FrameRead
sized_of kind bytes =
    if nat_lt (length bytes) 4 then faulted Torn
    else payload_of kind (from_le_bytes w32 (take 4 bytes)) (drop 4 bytes)

-- what stands behind that many events
unfoldable pub frame_of : Version → ℕ → List ℕ → FrameRead
frame_of version events [] = ended
frame_of version events (kind ∷ bytes) =
    if nat_le most_events events then faulted TooMany
    else if is_kind_of version kind then sized_of kind bytes
    else faulted (BadKind kind)

-- How events end: they were read to their end; or the event with this number could not be read, or, where events are made and not
-- read, it could not be made because of a bound of this program.
pub data End : Type 0 where
  done : End
  fault : ℕ → RecordFault → End
  limited : ℕ → Limit → End

-- Events, in order, and their end.
pub record Events : Type 0 where
  pub events : List Event
  pub end : End

-- one more event in front
abbrev pub with_event : Event → Events → Events
with_event event rest = record { events = event ∷ rest.events; end = rest.end }

-- the number of the event that could not be read, where that many were: 0 where the first bytes are wrong
abbrev pub fault_event : ℕ → RecordFault → ℕ
fault_event events BadMagic = 0
fault_event events _ = events + 1

-- The events that stand behind that many others. room is how many more there may be: with none left a frame is TooMany.
unfoldable pub events_from : Version → ℕ → ℕ → List ℕ → Events
events_from version zero events [] = record { events = []; end = done }
events_from version zero events (_ ∷ _) = record { events = []; end = fault (events + 1) TooMany }
events_from version (suc room) events bytes = elim (frame_of version events bytes) [
  | ended ↦ record { events = []; end = done }
  | faulted reason ↦ record { events = []; end = fault (fault_event events reason) reason }
  | framed event rest ↦ with_event event (events_from version room (events + 1) rest)
]

-- the events behind the first bytes of a record, of a version if it has one
abbrev pub events_under : Option Version → List ℕ → Events
events_under (Some version) bytes = events_from version most_events 0 bytes
events_under None bytes = record { events = []; end = fault 0 BadMagic }

-- the events of a record
unfoldable pub events_of : List ℕ → Events
events_of bytes = events_under (version_of (take 4 bytes)) (drop 4 bytes)
