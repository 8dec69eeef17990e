-- The statuses of what was to be read or written.
use Rattle.std.specs.Prelude.{ℕ, Result, Ok, Err}
use Rattle.bc_outside.specs.declared.trouble.Trouble.{Trouble}
use Rattle.bc_outside.specs.declared.trouble.Trouble.TheVariants.{Failed, NoMemory}
use Rattle.record_file.specs.declared.source.SourceStop.{SourceStop}
use Rattle.record_file.specs.declared.source.SourceStop.TheVariants as stops
use Rattle.one_chain.specs.declared.status.Status.{Status}
use Rattle.one_chain.specs.declared.status.Status.TheVariants as statuses

-- the status of a file that could not be read
abbrev pub unread : Trouble → Status
unread Failed = statuses.ReadFault
unread NoMemory = statuses.NoMemory

-- the status of lines that could not be written
abbrev pub unwritten : Trouble → Status
unwritten Failed = statuses.WriteFault
unwritten NoMemory = statuses.NoMemory

-- the status of a run whose lines were all to be written
abbrev pub written : Result (Unit {0}) Trouble → Status
written (Ok _) = statuses.Done
written (Err trouble) = unwritten trouble

-- the status of an event of a record that could not be read or made
abbrev pub no_event_of : ℕ → SourceStop → Status
no_event_of which (stops.Fault event reason) = statuses.Record which event reason
no_event_of which (stops.Limit event bound) = statuses.Limit which event bound
no_event_of which stops.ReadFault = statuses.ReadFault
no_event_of which stops.NoMemory = statuses.NoMemory

-- the same of the only record
abbrev pub no_event : SourceStop → Status
no_event stop = no_event_of 0 stop
