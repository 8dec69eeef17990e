-- The nodes are delivered their events one after the other.
use Rattle.std.proofs.Common.{◌≤◌, ◌≡◌, ◌-◌, ◌+◌, List, length, true, refl, arith}
use Rattle.std.specs.Prelude.{All}
use Rattle.std.specs.List.{range_with_len}
use Rattle.std.proofs.lemmas.List.Elements.{All-nil, All-push}
use Rattle.record_file.specs.Record.{is_kind, most_events}
use Rattle.record_file.specs.declared.event.Event.{Event}
use Rattle.spec_fork_choice.specs.GetForkchoiceStore.{genesis_store}
use Rattle.beacon_node.specs.declared.node.Delivered.{Delivered}
use Rattle.beacon_node.specs.inside.Nodes.{HasRun}
use Rattle.beacon_node.proofs.ManyNodes.{all_nodes_left, its_line, next_number, no_node_yet, no_number, node_lines_more, node_more, node_over, of_chain}
use Rattle.beacon_node.proofs.nodes.all_nodes.Goals as goal

pub loop-node-init : goal.loop-node-init
loop-node-init c = record {
  left = no_node_yet c.args.words.now.number c.args.words.now.count _ (genesis_store c.args.config.now c.args.genesis.now) c.args.first.now c.args.second.now _ c.new-nodes.ensures.items (omega arith);
  lines = rw c.new-nodes.ensures.items refl;
  each = rw c.new-nodes.ensures.items (All-nil (λ (given : Delivered). HasRun c.args.config.now c.args.genesis.now given.node));
}

pub delivered_node-requires-clause-few : goal.delivered_node-requires-clause-few
delivered_node-requires-clause-few c =
    rw c.chain_of-events.ensures (of_chain (λ (xs : List Event). length xs ≤ most_events) c.loop-node.node c.args.first.now c.args.second.now c.requires.few.0 c.requires.few.1)

pub delivered_node-requires-clause-kinds : goal.delivered_node-requires-clause-kinds
delivered_node-requires-clause-kinds c =
    rw c.chain_of-events.ensures
    (of_chain (λ (xs : List Event). All (λ (event : Event). is_kind event.kind ≡ true) xs) c.loop-node.node c.args.first.now c.args.second.now c.requires.kinds.0 c.requires.kinds.1)

pub returns-in-Err-clause-over : goal.returns-in-Err-clause-over
returns-in-Err-clause-over c =
    node_over c.args.words.now.number (genesis_store c.args.config.now c.args.genesis.now) c.args.first.now c.args.second.now c.loop-node.node c.loop-node.nodes.items
    (range_with_len (c.loop-node.node + 1) (c.args.words.now.count - (c.loop-node.node + 1))) _ (rw (next_number c.loop-node.node c.args.words.now.count (omega arith)) at c.loop-node.invariant.left) c.in-Err.status
    (rw c.chain_of-events.ensures at c.in-Err.ensures.over)

pub loop-node-preserved : goal.loop-node-preserved
loop-node-preserved c = record {
  left =
      rw c.in-Ok-push.ensures.items
      (node_more c.args.words.now.number (genesis_store c.args.config.now c.args.genesis.now) c.args.first.now c.args.second.now c.loop-node.node c.loop-node.nodes.items
      (range_with_len (c.loop-node.node + 1) (c.args.words.now.count - (c.loop-node.node + 1))) _ (rw (next_number c.loop-node.node c.args.words.now.count (omega arith)) at c.loop-node.invariant.left) c.in-Ok.given
      c.in-Ok.ensures.number (rw c.chain_of-events.ensures at c.in-Ok.ensures.followed));
  lines =
      rw c.in-Ok-push.ensures.items
      (node_lines_more c.args.words.now.number (genesis_store c.args.config.now c.args.genesis.now) c.args.first.now c.args.second.now c.loop-node.nodes.items c.in-Ok.given c.loop-node.invariant.lines
      (its_line c.args.words.now.number (genesis_store c.args.config.now c.args.genesis.now) c.args.first.now c.args.second.now c.loop-node.node c.in-Ok.given c.in-Ok.given.line.items c.in-Ok.ensures.number
      (rw c.chain_of-events.ensures at c.in-Ok.ensures.line)));
  each =
      rw c.in-Ok-push.ensures.items
      (All-push (λ (given : Delivered). HasRun c.args.config.now c.args.genesis.now given.node) c.loop-node.nodes.items c.in-Ok.given c.loop-node.invariant.each c.in-Ok.ensures.has_run);
}

pub returns-clause-nodes : goal.returns-clause-nodes
returns-clause-nodes c =
    all_nodes_left c.args.words.now.number (genesis_store c.args.config.now c.args.genesis.now) c.args.first.now c.args.second.now c.loop-node.nodes.items _
    (rw (no_number c.loop-node.node c.args.words.now.count (omega arith)) at c.loop-node.invariant.left)
