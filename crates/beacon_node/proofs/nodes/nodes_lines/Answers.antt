-- A node ends the run, or the lines are told.
use Rattle.std.proofs.Common.{refl}
use Rattle.spec_fork_choice.specs.GetForkchoiceStore.{genesis_store}
use Rattle.spec_fork_choice.specs.OnEvent.{genesis_clash}
use Rattle.spec_replay.specs.Nodes.{all_of}
use Rattle.beacon_node.proofs.ManyNodes.{all_told, nodes_over}
use Rattle.beacon_node.proofs.nodes.nodes_lines.Goals as goal

pub returns-in-Ok-clause-told : goal.returns-in-Ok-clause-told
returns-in-Ok-clause-told c =
    all_told (genesis_clash c.args.genesis.now) c.args.words.now.number c.args.words.now.count c.args.genesis.now (genesis_store c.args.config.now c.args.genesis.now) (all_of c.args.first.now) (all_of c.args.second.now) c.requires.none
    c.args.first.now refl c.args.second.now refl c.in-Ok.nodes.items c.in-Ok.ensures.nodes _ c.lines_of.result c.in-Ok.ensures.lines (rw c.deref.ensures.value at c.lines_of.ensures.told)

pub returns-in-Err-clause-told : goal.returns-in-Err-clause-told
returns-in-Err-clause-told c =
    nodes_over (genesis_clash c.args.genesis.now) c.args.words.now.number c.args.words.now.count c.args.genesis.now (genesis_store c.args.config.now c.args.genesis.now) (all_of c.args.first.now) (all_of c.args.second.now) c.requires.none
    c.args.first.now refl c.args.second.now refl c.in-Err.status c.in-Err.ensures.over
