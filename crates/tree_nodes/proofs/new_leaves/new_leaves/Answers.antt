-- One batch more.
use Rattle.std.proofs.Common.{ℕ, List, ◌++◌, length, ap, ◌∙◌, arith, length-append}
use Rattle.std.specs.Prelude.{zip}
use Rattle.std.specs.Vec.Iter.{into_iter_items}
use Rattle.tree_nodes.proofs.NewLeaves.{length_zip, changes_more, changes_all}
use Rattle.tree_nodes.proofs.new_leaves.new_leaves.Goals as goal

pub batches-preserved : goal.batches-preserved
batches-preserved g c =
    let batch = zip c.in_ok-places.places.items c.in_ok-places.items.items in
    let taken = ap length c.in_ok-places.ensures.taken in
    let longer = length-append batch (into_iter_items c.split_changes.new.rest) in
    let places = c.in_ok-places.ensures.places in
    let items = c.in_ok-places.ensures.items in
    let long = length_zip c.in_ok-places.places.items c.in_ok-places.items.items (omega arith) in
    let left = c.batches.invariant.left_is in
    record {
      made = changes_more c.batches.leaves.items c.add_changes.new.leaves.items batch (into_iter_items c.batches.rest) (into_iter_items c.split_changes.new.rest) c.args.changes.items c.in_ok-places.ensures.taken (c.in_ok-add_changes.ensures ∙ ap (λ (ps : List ℕ). c.batches.leaves.items ++ zip ps c.in_ok-places.items.items) c.deref.ensures.value) c.batches.invariant.made;
      left_is = omega arith;
    }

pub returns : goal.returns
returns g c =
    changes_all c.batches.leaves.items (into_iter_items c.batches.rest) c.args.changes.items (omega (arith, c.batches-test.false, c.batches.invariant.left_is)) c.batches.invariant.made
