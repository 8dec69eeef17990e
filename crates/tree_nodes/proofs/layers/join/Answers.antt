-- One pair more.
use Rattle.std.proofs.Common.{length, ap, arith}
use Rattle.std.specs.Vec.Iter.{into_iter_items}
use Rattle.tree_nodes.proofs.Climbs.{pair_root_at, roots_next, made_next, halves_next, pair_all}
use Rattle.tree_nodes.proofs.layers.join.Goals as goal

pub rooted-requires-clause-root : goal.rooted-requires-clause-root
rooted-requires-clause-root g c =
    pair_root_at g.T.Leaf.root_of c.args.above.now c.pairs.k c.next_of-left.result c.next_of-right.result (into_iter_items c.pairs.rest) (into_iter_items c.next_of-left.new.rest) (into_iter_items c.next_of-right.new.rest) c.next_of-left.ensures c.next_of-right.ensures c.pairs.invariant.roots

pub pairs-preserved : goal.pairs-preserved
pairs-preserved g c =
    let first = ap length c.next_of-left.ensures in
    let second = ap length c.next_of-right.ensures in
    let so_far = c.pairs.invariant.even in
    record {
      made = made_next c.pairs.joined.items c.push.new.self.items c.in_ok-rooted.field-0 c.next_of-left.result c.next_of-right.result (into_iter_items c.pairs.rest) (into_iter_items c.next_of-left.new.rest) (into_iter_items c.next_of-right.new.rest) c.args.nodes.items c.next_of-left.ensures c.next_of-right.ensures c.in_ok-push.ensures.items c.in_ok-rooted.ensures c.pairs.invariant.made;
      halves = halves_next c.next_of-left.result c.next_of-right.result (into_iter_items c.pairs.rest) (into_iter_items c.next_of-left.new.rest) (into_iter_items c.next_of-right.new.rest) c.next_of-left.ensures c.next_of-right.ensures c.pairs.invariant.halves;
      even = omega arith;
      roots = roots_next g.T.Leaf.root_of c.args.above.now c.pairs.k c.next_of-left.result c.next_of-right.result (into_iter_items c.pairs.rest) (into_iter_items c.next_of-left.new.rest) (into_iter_items c.next_of-right.new.rest) c.next_of-left.ensures c.next_of-right.ensures c.pairs.invariant.roots;
    }

pub returns : goal.returns
returns g c =
    pair_all c.pairs.joined.items (into_iter_items c.pairs.rest) c.args.nodes.items (omega (arith, c.pairs-test.false, c.pairs.invariant.even)) c.pairs.invariant.made

pub next_of-left-requires : goal.next_of-left-requires
next_of-left-requires g c = omega (arith, c.pairs-test.true, c.pairs.invariant.even)

pub next_of-right-requires : goal.next_of-right-requires
next_of-right-requires g c = omega (arith, c.pairs-test.true, c.pairs.invariant.even, ap length c.next_of-left.ensures)
