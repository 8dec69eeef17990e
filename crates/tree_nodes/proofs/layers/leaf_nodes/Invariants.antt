-- What is left to take stands behind the leaves so far.
use Rattle.std.proofs.Common.{◌≡◌, ◌++◌, length}
use Rattle.std.specs.Vec.Iter.{into_iter_items}
use Rattle.tree_nodes.specs.inside.Layers.{leaves}
use Rattle.tree_nodes.proofs.layers.leaf_nodes.Given as goal

abbrev pub invariant-batches : goal.invariant-batches
invariant-batches g l = record {
  made : l.nodes.items ++ leaves (into_iter_items l.rest) ≡ leaves l.fn.items.items;
  left_is : l.left ≡ length (into_iter_items l.rest);
}

abbrev pub decreases-batches : goal.decreases-batches
decreases-batches g l = l.left
