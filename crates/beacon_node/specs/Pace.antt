-- What of a run keeps pace with the bytes that were taken of its files.
use Rattle.std.specs.Prelude.{ℕ, List, Option, Some, None}
use Rattle.bc_outside.specs.Told.{FileHanded}
use Rattle.spec_replay.specs.Run.{Run, no_command, over, with_files}
use Rattle.spec_replay.specs.Anchor.{anchor_run}
use Rattle.spec_replay.specs.Drill.{drill_run}
use Rattle.spec_replay.specs.Genesis.{genesis_run}
use Rattle.spec_replay.specs.Duties.{duties_run}
use Rattle.spec_replay.specs.Forensic.{forensic_run, slasher_run}
use Rattle.spec_replay.specs.Nodes.{nodes_run}
use Rattle.command_arguments.specs.Arguments.{Command, anchor, drill, duties, forensic, genesis, nodes, replay, slasher}
use Rattle.command_words.specs.Commands.{command_of}
use Rattle.one_chain.specs.declared.status.Status.{Status}
use Rattle.one_chain.specs.Answers.{taken_of, whole_of}

-- What keeps pace with the files. Of `replay` and `anchor` it is the run with as much of the record, the last file, as was taken; the
-- other commands write at their end.
abbrev pub with_taken : Status → (List ℕ → Option (List ℕ)) → List FileHanded → Option Command → Run
with_taken status contents opened None = over no_command
with_taken status contents opened (Some (replay files)) = with_files (contents files.config) (contents files.genesis) (taken_of 2 opened)
with_taken status contents opened (Some (drill words)) = whole_of status (drill_run words.number (contents words.config))
with_taken status contents opened (Some (genesis files)) = whole_of status (genesis_run (contents files.config) (contents files.deposits))
with_taken status contents opened (Some (duties words)) = whole_of status (duties_run words.epoch (contents words.config) (contents words.state))
with_taken status contents opened (Some (anchor files)) = anchor_run (contents files.config) (contents files.state) (contents files.block) (taken_of 3 opened)
with_taken status contents opened (Some (forensic files)) = whole_of status (forensic_run (contents files.config) (contents files.genesis) (contents files.first) (contents files.second))
with_taken status contents opened (Some (nodes words)) = whole_of status (nodes_run words.number words.count (contents words.config))
with_taken status contents opened (Some (slasher files)) = whole_of status (slasher_run (contents files.config) (contents files.genesis) (contents files.first) (contents files.second))

-- the same of the command words
unfoldable pub taken_run_of : Status → List (List ℕ) → (List ℕ → Option (List ℕ)) → List FileHanded → Run
taken_run_of status words contents opened = with_taken status contents opened (command_of words)
