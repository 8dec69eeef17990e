-- The items taken so far stand before those that are left.
use Rattle.std.proofs.Common.{◌≡◌, ◌+◌, ◌≤◌, ◌++◌, length}
use Rattle.std.specs.Vec.Iter.{into_iter_items}
use Rattle.tree_nodes.proofs.layers.take_items.Given as goal

abbrev pub invariant-items : goal.invariant-items
invariant-items g l = record {
  taken : l.batch.items ++ into_iter_items l.rest ≡ into_iter_items l.fn.rest;
  so_far : length l.batch.items ≡ l.k;
  left : length (into_iter_items l.rest) + l.k ≡ length (into_iter_items l.fn.rest);
  upto : l.k ≤ l.count;
}
