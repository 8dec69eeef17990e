-- The stores don't open, or all comes behind that.
use Rattle.spec_fork_choice.specs.GetForkchoiceStore.{genesis_store}
use Rattle.spec_fork_choice.specs.OnEvent.{genesis_clash}
use Rattle.spec_drill.specs.AsEvents.{events_to_come}
use Rattle.spec_drill.specs.Maker.{to_come}
use Rattle.beacon_node.proofs.ManyNodes.{not_opened}
use Rattle.beacon_node.proofs.nodes.all_lines.Goals as goal

pub returns-in-Err-clause-told : goal.returns-in-Err-clause-told
returns-in-Err-clause-told c =
    not_opened (genesis_clash c.args.split.genesis) c.args.words.now.number c.args.words.now.count c.args.split.genesis (genesis_store c.args.config.now c.args.split.genesis) (events_to_come 0 (to_come c.args.split.first))
    (events_to_come 0 (to_come c.args.split.second)) c.in-Err.status c.in-Err.ensures.over
