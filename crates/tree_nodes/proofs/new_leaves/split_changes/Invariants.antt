-- The changes taken apart so far stand before those that are left.
use Rattle.std.proofs.Common.{◌≡◌, ◌+◌, ◌≤◌, ◌++◌, length}
use Rattle.std.specs.Prelude.{zip}
use Rattle.std.specs.Vec.Iter.{into_iter_items}
use Rattle.tree_nodes.proofs.new_leaves.split_changes.Given as goal

abbrev pub invariant-changes : goal.invariant-changes
invariant-changes g l = record {
  taken : zip l.places.items l.items.items ++ into_iter_items l.rest ≡ into_iter_items l.fn.rest;
  places : length l.places.items ≡ l.k;
  items : length l.items.items ≡ l.k;
  left : length (into_iter_items l.rest) + l.k ≡ length (into_iter_items l.fn.rest);
  upto : l.k ≤ l.count;
}
