-- One item more.
use Rattle.std.proofs.Common.{[], ◌∷◌, length, ap, arith, length-append}
use Rattle.std.specs.Vec.Iter.{into_iter_items}
use Rattle.tree_nodes.proofs.Climbs.{taken_more}
use Rattle.tree_nodes.proofs.layers.take_items.Goals as goal

pub items-preserved : goal.items-preserved
items-preserved g c =
    let first = ap length c.next_of.ensures in
    let more = ap length c.in_ok-push.ensures.items in
    let longer = length-append c.items.batch.items (c.next_of.result ∷ []) in
    let left = c.items.invariant.left in
    let so_far = c.items.invariant.so_far in
    let test = c.items-test.true in
    record {
      taken = taken_more c.items.batch.items c.push.new.self.items c.next_of.result (into_iter_items c.items.rest) (into_iter_items c.next_of.new.rest) (into_iter_items c.args.rest.now) c.next_of.ensures c.in_ok-push.ensures.items c.items.invariant.taken;
      so_far = omega arith;
      left = omega arith;
      upto = omega arith;
    }

pub next_of-requires : goal.next_of-requires
next_of-requires g c = omega (arith, c.items-test.true, c.items.invariant.left, c.requires)
