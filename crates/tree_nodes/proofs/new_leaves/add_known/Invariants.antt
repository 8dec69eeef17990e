-- What is left to take stands behind the leaves so far.
use Rattle.std.proofs.Common.{◌≡◌, ◌+◌, ◌++◌, length, map, drop}
use Rattle.std.specs.Prelude.{zip}
use Rattle.std.specs.Vec.Iter.{into_iter_items}
use Rattle.tree_nodes.proofs.new_leaves.add_known.Given as goal

abbrev pub invariant-leaves : goal.invariant-leaves
invariant-leaves g l = record {
  made : l.leaves.items ++ zip (drop l.k l.places) (into_iter_items l.rest) ≡ l.fn.leaves.items ++ zip l.places l.fn.items.items;
  even : length l.places ≡ l.k + length (into_iter_items l.rest);
  roots : drop l.k l.roots ≡ map g.T.Leaf.root_of (into_iter_items l.rest);
}
