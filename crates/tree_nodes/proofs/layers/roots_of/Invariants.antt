-- The roots of the nodes that are left stand behind those so far.
use Rattle.std.proofs.Common.{◌≡◌, ◌≤◌, ◌++◌, length, drop}
use Rattle.tree_nodes.specs.inside.Layers.{node_roots}
use Rattle.tree_nodes.proofs.layers.roots_of.Given as goal

abbrev pub invariant-roots : goal.invariant-roots
invariant-roots g l = record {
  made : l.roots.items ++ node_roots g.T.Leaf.root_of (drop l.k l.nodes) ≡ node_roots g.T.Leaf.root_of l.nodes;
  upto : l.k ≤ length l.nodes;
}
