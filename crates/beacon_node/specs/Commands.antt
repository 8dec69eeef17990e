-- The run of the command words.
use Rattle.std.specs.Prelude.{ℕ, List, Option, Some, None}
use Rattle.command_arguments.specs.Arguments.{Command, anchor, drill, duties, forensic, genesis, nodes, replay, slasher}
use Rattle.command_words.specs.Commands.{command_of}
use Rattle.spec_replay.specs.Run.{Run, no_command, over, with_files}
use Rattle.spec_replay.specs.Anchor.{anchor_run}
use Rattle.spec_replay.specs.Drill.{drill_run}
use Rattle.spec_replay.specs.Genesis.{genesis_run}
use Rattle.spec_replay.specs.Duties.{duties_run}
use Rattle.spec_replay.specs.Forensic.{forensic_run, slasher_run}
use Rattle.spec_replay.specs.Nodes.{nodes_run}

-- the command that the words are, where the names hold these bytes
unfoldable pub with_command : (List ℕ → Option (List ℕ)) → Option Command → Run
with_command contents None = over no_command
with_command contents (Some (replay files)) = with_files (contents files.config) (contents files.genesis) (contents files.events)
with_command contents (Some (drill words)) = drill_run words.number (contents words.config)
with_command contents (Some (genesis files)) = genesis_run (contents files.config) (contents files.deposits)
with_command contents (Some (duties words)) = duties_run words.epoch (contents words.config) (contents words.state)
with_command contents (Some (anchor files)) = anchor_run (contents files.config) (contents files.state) (contents files.block) (contents files.events)
with_command contents (Some (forensic files)) = forensic_run (contents files.config) (contents files.genesis) (contents files.first) (contents files.second)
with_command contents (Some (nodes words)) = nodes_run words.number words.count (contents words.config)
with_command contents (Some (slasher files)) = slasher_run (contents files.config) (contents files.genesis) (contents files.first) (contents files.second)

-- the run of the command words, where the names hold these bytes
unfoldable pub run_of : (List ℕ → Option (List ℕ)) → List (List ℕ) → Run
run_of contents words = with_command contents (command_of words)
