-- A record's answers as those of a source of events.
use Rattle.std.specs.Prelude.{ℕ, Option, Result, Ok, Err}
use Rattle.record_file.specs.declared.event.Event.{Event}
use Rattle.record_file.specs.declared.fault.FrameStop.{FrameStop}
use Rattle.record_file.specs.declared.fault.FrameStop.TheVariants as frames
use Rattle.record_file.specs.declared.source.SourceStop.{SourceStop}
use Rattle.record_file.specs.declared.source.SourceStop.TheVariants as sources
use Rattle.record_file.specs.Record.{fault_event}

-- the stop of a record behind that many events
abbrev pub source_stop : ℕ → FrameStop → SourceStop
source_stop events (frames.Fault reason) = sources.Fault (fault_event events reason) reason
source_stop events frames.ReadFault = sources.ReadFault
source_stop events frames.NoMemory = sources.NoMemory

-- and its answer
abbrev pub source_answer : ℕ → Result (Option Event) FrameStop → Result (Option Event) SourceStop
source_answer events (Ok next) = Ok next
source_answer events (Err stop) = Err (source_stop events stop)
