-- What is left to take stands behind the leaves so far.
use Rattle.std.proofs.Common.{◌≡◌, ◌++◌, length}
use Rattle.std.specs.Vec.Iter.{into_iter_items}
use Rattle.tree_nodes.proofs.new_leaves.new_leaves.Given as goal

abbrev pub invariant-batches : goal.invariant-batches
invariant-batches g l = record {
  made : l.leaves.items ++ into_iter_items l.rest ≡ l.fn.changes.items;
  left_is : l.left ≡ length (into_iter_items l.rest);
}

abbrev pub decreases-batches : goal.decreases-batches
decreases-batches g l = l.left
