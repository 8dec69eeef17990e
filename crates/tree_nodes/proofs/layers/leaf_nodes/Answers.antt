-- One batch more.
use Rattle.std.proofs.Common.{length, ap, arith, length-append}
use Rattle.std.specs.Vec.Iter.{into_iter_items}
use Rattle.tree_nodes.specs.inside.Layers.{leaves}
use Rattle.tree_nodes.proofs.Climbs.{leaf_all, batch_more}
use Rattle.tree_nodes.proofs.layers.leaf_nodes.Goals as goal

pub batches-preserved : goal.batches-preserved
batches-preserved g c =
    let taken = ap length c.in_ok-batch.ensures.taken in
    let longer = length-append c.in_ok-batch.batch.items (into_iter_items c.take_items.new.rest) in
    let count = c.in_ok-batch.ensures.count in
    let left = c.batches.invariant.left_is in
    record {
      made = batch_more c.batches.nodes.items c.add_batch.new.nodes.items c.in_ok-batch.batch.items (into_iter_items c.batches.rest) (into_iter_items c.take_items.new.rest) (leaves c.args.items.items) c.in_ok-batch.ensures.taken c.in_ok-add_batch.ensures c.batches.invariant.made;
      left_is = omega arith;
    }

pub returns : goal.returns
returns g c =
    leaf_all c.batches.nodes.items (into_iter_items c.batches.rest) (leaves c.args.items.items) (omega (arith, c.batches-test.false, c.batches.invariant.left_is)) c.batches.invariant.made
