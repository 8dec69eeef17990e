-- Runs that write once all their files are read.
use Rattle.std.specs.Prelude.{◌≡◌, ◌≢◌, false}
use Rattle.bc_outside.specs.Told.{SinkTold}
use Rattle.bc_outside.specs.Calls.{Rose, SinkKeeps}
use Rattle.spec_replay.specs.Run.{Run}
use Rattle.one_chain.specs.declared.status.Status.{Status}
use Rattle.one_chain.specs.declared.status.Status.TheVariants as statuses
use Rattle.one_chain.specs.Answers.{WritesLines, breaks_off, end_of}

-- What became of a run whose files are all read: how it ends, and its lines. No file could fail, and it is one of a command.
pub record Concludes (status : Status) (run : Run) (took took_then : SinkTold) : Type 0 where
  pub ends : breaks_off status ≡ false → run.end ≡ end_of status
  pub files : run.files ≡ 0
  pub lines : WritesLines (breaks_off status) run.lines took.taken took_then.taken
  pub has_words : status ≢ statuses.Words
  pub is_read : status ≢ statuses.ReadFault
  pub write : status ≡ statuses.WriteFault → Rose took.faults took_then.faults
  pub keeps : SinkKeeps took took_then
