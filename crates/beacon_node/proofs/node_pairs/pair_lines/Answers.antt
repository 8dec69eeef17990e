-- The lines of a node with those behind it, one node after the other.
use Rattle.beacon_node.proofs.Pairing.{lines_more, lines_over, no_pairs_left, pairs_left, part_ends}
use Rattle.beacon_node.proofs.node_pairs.pair_lines.Goals as goal

pub loop-index-preserved : goal.loop-index-preserved
loop-index-preserved c =
    lines_more _ _ c.in-Ok.more.items _ _ _ _ (pairs_left c.args.genesis.now c.args.nodes.now c.loop-index.index c.index-nodes-index.result c.loop-index-test.true c.index-nodes-index.is)
    c.loop-index.invariant c.in-Ok.ensures.told (rw c.deref.ensures.value at c.in-Ok-extend_from_slice.ensures.items)

pub returns-clause-told : goal.returns-clause-told
returns-clause-told c = lines_over _ _ _ (no_pairs_left c.args.genesis.now c.args.nodes.now c.loop-index.index c.loop-index-test.false) c.loop-index.invariant

pub returns-in-Err-clause-told : goal.returns-in-Err-clause-told
returns-in-Err-clause-told c =
    part_ends c.in-Err.status _ _ _ _ _ (pairs_left c.args.genesis.now c.args.nodes.now c.loop-index.index c.index-nodes-index.result c.loop-index-test.true c.index-nodes-index.is)
    c.loop-index.invariant c.in-Err.ensures.told
