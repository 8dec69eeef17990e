-- One item more.
use Rattle.std.proofs.Common.{length, map, refl, ap, arith}
use Rattle.std.specs.Vec.Iter.{into_iter_items}
use Rattle.tree_nodes.proofs.Every.{item_more, item_all}
use Rattle.tree_nodes.proofs.put.new_items.Goals as goal

pub items-preserved : goal.items-preserved
items-preserved g c =
    let first = ap length c.next_of.ensures in
    let left = c.items.invariant.left in
    record {
      made = item_more c.items.items.items c.push.new.self.items c.next_of.result.1 c.next_of.result (into_iter_items c.items.rest) (into_iter_items c.next_of.new.rest) (map (λ change. change.1) c.args.changes.items) c.next_of.ensures c.in_ok-push.ensures.items refl c.items.invariant.made;
      left = omega arith;
    }

pub returns : goal.returns
returns g c =
    item_all c.items.items.items (into_iter_items c.items.rest) (map (λ change. change.1) c.args.changes.items) (omega (arith, c.items-test.false, c.items.invariant.left, c.len-count.ensures)) c.items.invariant.made

pub next_of-requires : goal.next_of-requires
next_of-requires g c = omega (arith, c.items-test.true, c.items.invariant.left, c.len-count.ensures)
