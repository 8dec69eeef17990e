-- What is left to pair stands behind the pairs so far.
use Rattle.std.proofs.Common.{◌≡◌, ◌+◌, ◌*◌, ◌++◌, length, drop}
use Rattle.std.specs.Vec.Iter.{into_iter_items}
use Rattle.hash_tree.specs.Pairs.{parents}
use Rattle.tree_nodes.specs.inside.Layers.{paired, node_roots, ArePaired}
use Rattle.tree_nodes.proofs.layers.join.Given as goal

abbrev pub invariant-pairs : goal.invariant-pairs
invariant-pairs g l = record {
  made : l.joined.items ++ paired (into_iter_items l.rest) ≡ paired l.fn.nodes.items;
  halves : ArePaired (into_iter_items l.rest);
  even : length (into_iter_items l.rest) + 2 * l.k ≡ 2 * length l.above;
  roots : drop l.k l.above ≡ parents (node_roots g.T.Leaf.root_of (into_iter_items l.rest));
}
