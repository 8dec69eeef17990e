-- The words are a command, and the rest is its run, or they are none, or memory ran out before they were read.
use Rattle.command_arguments.specs.Arguments.{forensic, slasher}
use Rattle.beacon_node.proofs.Commands.{replay_answers, drill_answers, genesis_answers, duties_answers, anchor_answers, forensic_answers, nodes_answers, slasher_answers, another_command, are_none, no_answers, unread_words}
use Rattle.beacon_node.proofs.top.beacon_main.Goals as goal

pub returns-in-Ok-Replay-clause-answers : goal.returns-in-Ok-Replay-clause-answers
returns-in-Ok-Replay-clause-answers g c = replay_answers _ _ _ _ _ _ _ (rw c.in-Ok-Replay.field-0-is at c.in-Ok-Replay.ensures) c.replay.ensures.answers

pub returns-in-Ok-Drill-clause-answers : goal.returns-in-Ok-Drill-clause-answers
returns-in-Ok-Drill-clause-answers g c = drill_answers _ _ _ _ _ _ _ (rw c.in-Ok-Drill.field-0-is at c.in-Ok-Drill.ensures) c.drill.ensures.answers

pub returns-in-Ok-Genesis-clause-answers : goal.returns-in-Ok-Genesis-clause-answers
returns-in-Ok-Genesis-clause-answers g c = genesis_answers _ _ _ _ _ _ _ (rw c.in-Ok-Genesis.field-0-is at c.in-Ok-Genesis.ensures) c.make_genesis.ensures.answers

pub returns-in-Ok-Duties-clause-answers : goal.returns-in-Ok-Duties-clause-answers
returns-in-Ok-Duties-clause-answers g c = duties_answers _ _ _ _ _ _ _ (rw c.in-Ok-Duties.field-0-is at c.in-Ok-Duties.ensures) c.tell_duties.ensures.answers

pub returns-in-Ok-Anchor-clause-answers : goal.returns-in-Ok-Anchor-clause-answers
returns-in-Ok-Anchor-clause-answers g c = anchor_answers _ _ _ _ _ _ _ (rw c.in-Ok-Anchor.field-0-is at c.in-Ok-Anchor.ensures) c.anchor.ensures.answers

pub returns-in-Ok-Forensic-clause-answers : goal.returns-in-Ok-Forensic-clause-answers
returns-in-Ok-Forensic-clause-answers g c = forensic_answers _ _ _ _ _ _ _ (rw c.in-Ok-Forensic.field-0-is at c.in-Ok-Forensic.ensures) c.forensic.ensures.answers

pub returns-in-Ok-Nodes-clause-answers : goal.returns-in-Ok-Nodes-clause-answers
returns-in-Ok-Nodes-clause-answers g c = nodes_answers _ _ _ _ _ _ _ (rw c.in-Ok-Nodes.field-0-is at c.in-Ok-Nodes.ensures) c.nodes.ensures.answers

pub returns-in-Ok-Slasher-clause-answers : goal.returns-in-Ok-Slasher-clause-answers
returns-in-Ok-Slasher-clause-answers g c = slasher_answers _ _ _ _ _ _ _ (rw c.in-Ok-Slasher.field-0-is at c.in-Ok-Slasher.ensures) c.forensic-in-Ok-Slasher.ensures.answers

pub returns-in-Ok-Forensic-clause-convicts : goal.returns-in-Ok-Forensic-clause-convicts
returns-in-Ok-Forensic-clause-convicts g c = λ files is done. c.forensic.ensures.reports done

pub returns-in-Ok-Slasher-clause-slashes : goal.returns-in-Ok-Slasher-clause-slashes
returns-in-Ok-Slasher-clause-slashes g c = λ files is done. c.forensic-in-Ok-Slasher.ensures.reports done

pub returns-in-Ok-Replay-clause-convicts : goal.returns-in-Ok-Replay-clause-convicts
returns-in-Ok-Replay-clause-convicts g c = λ files is done. another_command _ _ (forensic files) (rw c.in-Ok-Replay.field-0-is at c.in-Ok-Replay.ensures) (λ same. cc) is

pub returns-in-Ok-Drill-clause-convicts : goal.returns-in-Ok-Drill-clause-convicts
returns-in-Ok-Drill-clause-convicts g c = λ files is done. another_command _ _ (forensic files) (rw c.in-Ok-Drill.field-0-is at c.in-Ok-Drill.ensures) (λ same. cc) is

pub returns-in-Ok-Genesis-clause-convicts : goal.returns-in-Ok-Genesis-clause-convicts
returns-in-Ok-Genesis-clause-convicts g c = λ files is done. another_command _ _ (forensic files) (rw c.in-Ok-Genesis.field-0-is at c.in-Ok-Genesis.ensures) (λ same. cc) is

pub returns-in-Ok-Duties-clause-convicts : goal.returns-in-Ok-Duties-clause-convicts
returns-in-Ok-Duties-clause-convicts g c = λ files is done. another_command _ _ (forensic files) (rw c.in-Ok-Duties.field-0-is at c.in-Ok-Duties.ensures) (λ same. cc) is

pub returns-in-Ok-Anchor-clause-convicts : goal.returns-in-Ok-Anchor-clause-convicts
returns-in-Ok-Anchor-clause-convicts g c = λ files is done. another_command _ _ (forensic files) (rw c.in-Ok-Anchor.field-0-is at c.in-Ok-Anchor.ensures) (λ same. cc) is

pub returns-in-Ok-Nodes-clause-convicts : goal.returns-in-Ok-Nodes-clause-convicts
returns-in-Ok-Nodes-clause-convicts g c = λ files is done. another_command _ _ (forensic files) (rw c.in-Ok-Nodes.field-0-is at c.in-Ok-Nodes.ensures) (λ same. cc) is

pub returns-in-Ok-Slasher-clause-convicts : goal.returns-in-Ok-Slasher-clause-convicts
returns-in-Ok-Slasher-clause-convicts g c = λ files is done. another_command _ _ (forensic files) (rw c.in-Ok-Slasher.field-0-is at c.in-Ok-Slasher.ensures) (λ same. cc) is

pub returns-in-Ok-Replay-clause-slashes : goal.returns-in-Ok-Replay-clause-slashes
returns-in-Ok-Replay-clause-slashes g c = λ files is done. another_command _ _ (slasher files) (rw c.in-Ok-Replay.field-0-is at c.in-Ok-Replay.ensures) (λ same. cc) is

pub returns-in-Ok-Drill-clause-slashes : goal.returns-in-Ok-Drill-clause-slashes
returns-in-Ok-Drill-clause-slashes g c = λ files is done. another_command _ _ (slasher files) (rw c.in-Ok-Drill.field-0-is at c.in-Ok-Drill.ensures) (λ same. cc) is

pub returns-in-Ok-Genesis-clause-slashes : goal.returns-in-Ok-Genesis-clause-slashes
returns-in-Ok-Genesis-clause-slashes g c = λ files is done. another_command _ _ (slasher files) (rw c.in-Ok-Genesis.field-0-is at c.in-Ok-Genesis.ensures) (λ same. cc) is

pub returns-in-Ok-Duties-clause-slashes : goal.returns-in-Ok-Duties-clause-slashes
returns-in-Ok-Duties-clause-slashes g c = λ files is done. another_command _ _ (slasher files) (rw c.in-Ok-Duties.field-0-is at c.in-Ok-Duties.ensures) (λ same. cc) is

pub returns-in-Ok-Anchor-clause-slashes : goal.returns-in-Ok-Anchor-clause-slashes
returns-in-Ok-Anchor-clause-slashes g c = λ files is done. another_command _ _ (slasher files) (rw c.in-Ok-Anchor.field-0-is at c.in-Ok-Anchor.ensures) (λ same. cc) is

pub returns-in-Ok-Forensic-clause-slashes : goal.returns-in-Ok-Forensic-clause-slashes
returns-in-Ok-Forensic-clause-slashes g c = λ files is done. another_command _ _ (slasher files) (rw c.in-Ok-Forensic.field-0-is at c.in-Ok-Forensic.ensures) (λ same. cc) is

pub returns-in-Ok-Nodes-clause-slashes : goal.returns-in-Ok-Nodes-clause-slashes
returns-in-Ok-Nodes-clause-slashes g c = λ files is done. another_command _ _ (slasher files) (rw c.in-Ok-Nodes.field-0-is at c.in-Ok-Nodes.ensures) (λ same. cc) is

pub returns-in-Err-NoCommand-clause-answers : goal.returns-in-Err-NoCommand-clause-answers
returns-in-Err-NoCommand-clause-answers g c = no_answers _ _ _ (are_none _ _ c.in-Err-NoCommand.field-0-is c.in-Err-NoCommand.ensures)

pub returns-in-Err-NoMemory-clause-answers : goal.returns-in-Err-NoMemory-clause-answers
returns-in-Err-NoMemory-clause-answers g c = unread_words _ _ _
