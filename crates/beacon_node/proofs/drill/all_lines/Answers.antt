-- The own chain ends the run, or the lines of the split stand behind its own.
use Rattle.std.proofs.Common.{[]}
use Rattle.spec_fork_choice.specs.GetForkchoiceStore.{genesis_store}
use Rattle.spec_fork_choice.specs.OnEvent.{genesis_clash}
use Rattle.beacon_node.specs.inside.Drilled.{chains_to_come}
use Rattle.beacon_node.proofs.Drilled.{behind_own, opened_over, still_new}
use Rattle.beacon_node.proofs.Following.{outside_behind}
use Rattle.beacon_node.proofs.Forensics.{ended_outside}
use Rattle.beacon_node.proofs.drill.all_lines.Goals as goal

pub with_split_lines-requires-clause-new : goal.with_split_lines-requires-clause-new
with_split_lines-requires-clause-new g c = (still_new _ c.args.makers.first c.requires.makers.first, still_new _ c.args.makers.second c.requires.makers.second)

pub returns-in-Ok-clause-told : goal.returns-in-Ok-clause-told
returns-in-Ok-clause-told g c =
    let own = c.in-Ok.ensures.told in
    behind_own (genesis_clash c.args.genesis) c.args.genesis (genesis_store c.args.config.now c.args.genesis) (chains_to_come c.args.makers) _ c.with_split_lines.result c.in-Ok.lines.items own.0 own.1 own.2 c.with_split_lines.ensures.told

pub returns-in-Err-clause-told : goal.returns-in-Err-clause-told
returns-in-Err-clause-told g c = opened_over (genesis_clash c.args.genesis) c.args.genesis (genesis_store c.args.config.now c.args.genesis) (chains_to_come c.args.makers) c.in-Err.status c.in-Err.ensures.told

pub returns-in-Ok-clause-outside : goal.returns-in-Ok-clause-outside
returns-in-Ok-clause-outside g c = outside_behind [] [] c.with_split_lines.result c.in-Ok.ensures.outside.shelf c.with_split_lines.ensures.outside

pub returns-in-Err-clause-outside : goal.returns-in-Err-clause-outside
returns-in-Err-clause-outside g c = ended_outside [] c.in-Err.status c.in-Err.ensures.outside
