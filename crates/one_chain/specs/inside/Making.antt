-- The end of a run that writes what it writes in one piece, once its files are read.
use Rattle.std.specs.Prelude.{◌≡◌, ◌≢◌, ℕ, List, false}
use Rattle.bc_outside.specs.Told.{SinkTold}
use Rattle.bc_outside.specs.Calls.{Rose, SinkKeeps}
use Rattle.spec_replay.specs.Run.{Run}
use Rattle.genesis_maker.specs.declared.stops.DepositsStop.{DepositsStop}
use Rattle.genesis_maker.specs.declared.stops.DepositsStop.TheVariants as stops
use Rattle.one_chain.specs.declared.status.Status.{Status}
use Rattle.one_chain.specs.declared.status.Status.TheVariants as statuses
use Rattle.one_chain.specs.Answers.{breaks_off, end_of, may_lack_lines, whole_of, WritesLines}

-- the status of deposits that make no genesis
abbrev pub no_made_genesis : DepositsStop → Status
no_made_genesis (stops.Fault fault) = statuses.Deposits fault
no_made_genesis stops.NoMemory = statuses.NoMemory

-- What became of a run whose files are all read: the status is how it ends, and its lines were written, unless it was broken
-- off.
pub record EndsWhole (status : Status) (run : Run) (written written_then : List ℕ) : Type 0 where
  pub ends : breaks_off status ≡ false → run.end ≡ end_of status
  pub lines : WritesLines (breaks_off status) run.lines written written_then
  pub pace : WritesLines (may_lack_lines status) (whole_of status run).lines written written_then
  pub files : run.files ≡ 0

-- What it did to the sink alone.
pub record OnlyWrites (status : Status) (took took_then : SinkTold) : Type 0 where
  pub read : status ≢ statuses.ReadFault
  pub write : status ≡ statuses.WriteFault → Rose took.faults took_then.faults
  pub sink : SinkKeeps took took_then
