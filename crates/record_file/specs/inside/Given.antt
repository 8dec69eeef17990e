-- What is answered by what was found at the front of the buffer.
use Rattle.std.specs.Prelude.{◌≡◌, ℕ, ◌+◌, take, drop, Option, Some, None, Result, Ok, Err}
use Rattle.record_file.specs.declared.event.Event.{Event}
use Rattle.record_file.specs.declared.fault.FrameStop.{FrameStop}
use Rattle.record_file.specs.declared.fault.FrameStop.TheVariants.{Fault, ReadFault, NoMemory}
use Rattle.record_file.specs.declared.found.Found.{Found}
use Rattle.record_file.specs.declared.found.Found.TheVariants as found
use Rattle.record_file.specs.declared.place.Place.TheVariants.{Stopped}
use Rattle.record_file.specs.Frames.{Reading}

-- a frame is read, unless memory runs out
abbrev pub GivenFrame : ℕ → ℕ → Result (Option Event) FrameStop → Reading → Reading → Type 0
GivenFrame kind size (Ok (Some event)) old new = (event ≡ record { kind = kind; payload = take size (drop 5 old.buffered) })
    × (new ≡ record { file = old.file; events = old.events + 1; place = old.place; buffered = drop (5 + size) old.buffered })
GivenFrame kind size (Ok None) old new = ⊥
GivenFrame kind size (Err (Fault reason)) old new = ⊥
GivenFrame kind size (Err ReadFault) old new = ⊥
GivenFrame kind size (Err NoMemory) old new = new ≡ old

-- the end and a fault are answered, and reading stops at a fault
abbrev pub Given : Found → Result (Option Event) FrameStop → Reading → Reading → Type 0
Given found.Ended result old new = (result ≡ Ok None) × (new ≡ old)
Given (found.Fault reason) result old new = (result ≡ Err (Fault reason)) × (new ≡ record { file = old.file; events = old.events; place = Stopped reason; buffered = old.buffered })
Given (found.Frame kind size) result old new = GivenFrame kind size result old new
