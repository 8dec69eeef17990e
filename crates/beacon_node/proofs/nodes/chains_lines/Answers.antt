-- A chain can't be made, or the nodes are delivered both.
use Rattle.spec_fork_choice.specs.GetForkchoiceStore.{genesis_store}
use Rattle.spec_fork_choice.specs.OnEvent.{genesis_clash}
use Rattle.spec_drill.specs.AsEvents.{events_to_come}
use Rattle.spec_drill.specs.Maker.{to_come}
use Rattle.beacon_node.proofs.ManyNodes.{first_not_made, second_not_made}
use Rattle.beacon_node.proofs.nodes.chains_lines.Goals as goal

pub returns-in-Err-clause-told : goal.returns-in-Err-clause-told
returns-in-Err-clause-told c =
    first_not_made (genesis_clash c.args.genesis.now) c.args.words.now.number c.args.words.now.count c.args.genesis.now (genesis_store c.args.config.now c.args.genesis.now) (events_to_come 0 (to_come c.args.first))
    (events_to_come 0 (to_come c.args.second)) c.requires.none c.in-Err.status c.in-Err.ensures.over

pub returns-clause-told : goal.returns-clause-told
returns-clause-told c =
    second_not_made (genesis_clash c.args.genesis.now) c.args.words.now.number c.args.words.now.count c.args.genesis.now (genesis_store c.args.config.now c.args.genesis.now) (events_to_come 0 (to_come c.args.first))
    (events_to_come 0 (to_come c.args.second)) c.requires.none c.in-Ok.events.items c.in-Ok.ensures.made c.in-Err-made_events.status c.in-Err-made_events.ensures.over

pub returns-in-Ok-made_events-clause-told : goal.returns-in-Ok-made_events-clause-told
returns-in-Ok-made_events-clause-told c = rw (c.in-Ok.ensures.made, c.in-Ok-made_events.ensures.made) (rw (c.deref.ensures.value, c.deref-in-Ok-made_events.ensures.value) at c.nodes_lines.ensures.told)
