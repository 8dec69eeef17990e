-- What the bytes in the buffer show of the next frame.
use Rattle.std.specs.Prelude.{◌≡◌, ℕ, ◌+◌, ◌≤◌, Bool, true, false, List, ◌++◌, length, take, drop}
use Rattle.record_file.specs.declared.fault.RecordFault.TheVariants.{Torn}
use Rattle.record_file.specs.declared.version.Version.{Version}
use Rattle.record_file.specs.declared.found.Found.{Found}
use Rattle.record_file.specs.declared.found.Found.TheVariants as found
use Rattle.record_file.specs.Record.{FrameRead, ended, faulted, framed, is_kind_of, longest_payload}

-- what was found, as what stands at a place of a record
abbrev pub read_of : Found → List ℕ → FrameRead
read_of found.Ended bytes = ended
read_of (found.Fault reason) bytes = faulted reason
read_of (found.Frame kind size) bytes = framed (record { kind = kind; payload = take size (drop 5 bytes) }) (drop (5 + size) bytes)

-- A frame that was found is whole, and may be one.
abbrev pub IsWhole : Version → Found → List ℕ → Type 0
IsWhole version found.Ended bytes = Unit {0}
IsWhole version (found.Fault reason) bytes = Unit {0}
IsWhole version (found.Frame kind size) bytes = (5 + size ≤ length bytes) × (size ≤ longest_payload) × (is_kind_of version kind ≡ true)

-- whether more bytes may change what was found: there was no byte, or a frame that is cut
abbrev pub is_short : Found → Bool
is_short found.Ended = true
is_short (found.Fault Torn) = true
is_short (found.Fault _) = false
is_short (found.Frame kind size) = false

-- whether it is a frame
abbrev pub is_frame : Found → Bool
is_frame found.Ended = false
is_frame (found.Fault reason) = false
is_frame (found.Frame kind size) = true

-- the same with more bytes behind
abbrev pub with_behind : List ℕ → FrameRead → FrameRead
with_behind more ended = ended
with_behind more (faulted reason) = faulted reason
with_behind more (framed event rest) = framed event (rest ++ more)
