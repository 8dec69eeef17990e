-- What stops the reading of a record.
use Rattle.bc_outside.specs.declared.trouble.Trouble.{Trouble}
use Rattle.bc_outside.specs.declared.trouble.Trouble.TheVariants as troubles
use Rattle.record_file.specs.declared.fault.FrameStop.{FrameStop}
use Rattle.record_file.specs.declared.fault.FrameStop.TheVariants.{Fault, ReadFault, NoMemory}
use Rattle.record_file.specs.declared.source.SourceStop.{SourceStop}
use Rattle.record_file.specs.declared.source.SourceStop.TheVariants as sources
use Rattle.std.specs.Prelude.{ℕ, ◌≤◌, Result, Ok, Err}
use Rattle.bc_outside.specs.Calls.{Rose}

-- a failing shelf is a ReadFault
abbrev pub stop_of : Trouble → FrameStop
stop_of troubles.Failed = ReadFault
stop_of troubles.NoMemory = NoMemory

-- ReadFault comes only where the shelf's count of faults rose. The count never falls.
abbrev pub StopsBy : {T : Type 0} → Result T FrameStop → ℕ → ℕ → Type 0
StopsBy (Ok _) before now = before ≤ now
StopsBy (Err (Fault _)) before now = before ≤ now
StopsBy (Err ReadFault) before now = (before ≤ now) × Rose before now
StopsBy (Err NoMemory) before now = before ≤ now

-- the same of any source of events
abbrev pub SourceStopsBy : {T : Type 0} → Result T SourceStop → ℕ → ℕ → Type 0
SourceStopsBy (Ok _) before now = before ≤ now
SourceStopsBy (Err (sources.Fault _ _)) before now = before ≤ now
SourceStopsBy (Err (sources.Limit _ _)) before now = before ≤ now
SourceStopsBy (Err sources.ReadFault) before now = (before ≤ now) × Rose before now
SourceStopsBy (Err sources.NoMemory) before now = before ≤ now
