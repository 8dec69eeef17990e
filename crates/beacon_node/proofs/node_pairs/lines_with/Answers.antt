-- The lines are made one after the other.
use Rattle.std.proofs.Common.{[]}
use Rattle.spec_replay.specs.Nodes.{pair_of}
use Rattle.beacon_node.specs.declared.node.Delivered.{Delivered}
use Rattle.beacon_node.specs.inside.Nodes.{plain_node}
use Rattle.beacon_node.proofs.Pairing.{line_ends, line_more, lines_over, next_left, none_left}
use Rattle.beacon_node.proofs.node_pairs.lines_with.Goals as goal

pub loop-second-preserved : goal.loop-second-preserved
loop-second-preserved c =
    line_more _ _ c.in-Ok.line.items _ _ _ _
    (next_left (λ (given : Delivered). pair_of c.args.genesis.now (plain_node [] c.args.first.now, plain_node [] given.node)) c.args.others.now c.loop-second.second-index c.second-item.result c.loop-second-test.true c.second-item.is)
    c.loop-second.invariant c.in-Ok.ensures.line (rw c.deref.ensures.value at c.in-Ok-extend_from_slice.ensures.items)

pub returns-clause-told : goal.returns-clause-told
returns-clause-told c =
    lines_over _ _ _ (none_left (λ (given : Delivered). pair_of c.args.genesis.now (plain_node [] c.args.first.now, plain_node [] given.node)) c.args.others.now c.loop-second.second-index c.loop-second-test.false) c.loop-second.invariant

pub returns-in-Err-clause-told : goal.returns-in-Err-clause-told
returns-in-Err-clause-told c =
    line_ends c.in-Err.status _ _ _ _ _
    (next_left (λ (given : Delivered). pair_of c.args.genesis.now (plain_node [] c.args.first.now, plain_node [] given.node)) c.args.others.now c.loop-second.second-index c.second-item.result c.loop-second-test.true c.second-item.is)
    c.loop-second.invariant c.in-Err.ensures.over
