-- One change more.
use Rattle.std.proofs.Common.{[], ◌∷◌, length, ap, arith, length-append}
use Rattle.std.specs.Vec.Iter.{into_iter_items}
use Rattle.tree_nodes.proofs.NewLeaves.{split_more}
use Rattle.tree_nodes.proofs.new_leaves.split_changes.Goals as goal

pub changes-preserved : goal.changes-preserved
changes-preserved g c =
    let first = ap length c.next_of-at.ensures in
    let more_places = ap length c.in_ok-push.ensures.items in
    let more_items = ap length c.in_ok-push-2.ensures.items in
    let longer_places = length-append c.changes.places.items (c.next_of-at.result.0 ∷ []) in
    let longer_items = length-append c.changes.items.items (c.next_of-at.result.1 ∷ []) in
    let left = c.changes.invariant.left in
    let places = c.changes.invariant.places in
    let items = c.changes.invariant.items in
    let test = c.changes-test.true in
    record {
      taken = split_more c.changes.places.items c.push.new.self.items c.changes.items.items c.push-in-changes.new.self.items c.next_of-at.result.0 c.next_of-at.result.1 (into_iter_items c.changes.rest) (into_iter_items c.next_of-at.new.rest) (into_iter_items c.args.rest.now) (omega arith) c.next_of-at.ensures c.in_ok-push.ensures.items c.in_ok-push-2.ensures.items c.changes.invariant.taken;
      places = omega arith;
      items = omega arith;
      left = omega arith;
      upto = omega arith;
    }

pub next_of-at-requires : goal.next_of-at-requires
next_of-at-requires g c = omega (arith, c.changes-test.true, c.changes.invariant.left, c.requires)
