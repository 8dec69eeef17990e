-- One spot more.
use Rattle.std.proofs.Common.{length, ap, arith}
use Rattle.std.specs.Vec.Iter.{into_iter_items}
use Rattle.tree_nodes.specs.inside.Plans.{gaps, filled}
use Rattle.tree_nodes.proofs.Plans.{gaps_first, fill_more, fill_all}
use Rattle.tree_nodes.proofs.several.fill.Goals as goal

pub node_at-requires : goal.node_at-requires
node_at-requires g c =
    omega (arith, c.spots.invariant.fit, ap gaps c.next_of.ensures, gaps_first c.next_of.result (into_iter_items c.next_of.new.rest))

pub spots-preserved : goal.spots-preserved
spots-preserved g c =
    let first = ap length c.next_of.ensures in
    let left = c.spots.invariant.left in
    let fit = c.spots.invariant.fit in
    let gap = ap gaps c.next_of.ensures in
    let one = gaps_first c.next_of.result (into_iter_items c.next_of.new.rest) in
    let count = c.node_at.ensures.count in
    record {
      made = fill_more c.spots.nodes.items c.push.new.self.items c.node_at.result c.next_of.result (into_iter_items c.spots.rest) (into_iter_items c.next_of.new.rest) (into_iter_items c.spots.others) (into_iter_items c.node_at.new.others) (filled c.args.spots.items c.args.others.items) c.next_of.ensures c.in_ok-push.ensures.items (c.node_at.ensures.node (into_iter_items c.next_of.new.rest)) c.spots.invariant.made;
      fit = omega arith;
      left = omega arith;
    }

pub returns : goal.returns
returns g c =
    let left = c.spots.invariant.left in
    let test = c.spots-test.false in
    let count = c.len-count.ensures in
    fill_all c.spots.nodes.items (into_iter_items c.spots.rest) (into_iter_items c.spots.others) (filled c.args.spots.items c.args.others.items) (omega arith) c.spots.invariant.made

pub next_of-requires : goal.next_of-requires
next_of-requires g c = omega (arith, c.spots-test.true, c.spots.invariant.left, c.len-count.ensures)
