-- What is left to take stands behind the leaves so far.
use Rattle.std.proofs.Common.{◌≡◌, ◌++◌, map, drop}
use Rattle.std.specs.Vec.Iter.{into_iter_items}
use Rattle.tree_nodes.specs.inside.Layers.{leaves}
use Rattle.tree_nodes.proofs.layers.add_leaves.Given as goal

abbrev pub invariant-leaves : goal.invariant-leaves
invariant-leaves g l = record {
  made : l.nodes.items ++ leaves (into_iter_items l.rest) ≡ l.fn.nodes.items ++ leaves l.fn.items.items;
  roots : drop l.k l.roots ≡ map g.T.Leaf.root_of (into_iter_items l.rest);
}
