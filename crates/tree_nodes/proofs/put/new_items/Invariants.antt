-- What is left to take stands behind the items so far.
use Rattle.std.proofs.Common.{◌≡◌, ◌+◌, ◌++◌, length, map}
use Rattle.std.specs.Vec.Iter.{into_iter_items}
use Rattle.tree_nodes.proofs.put.new_items.Given as goal

abbrev pub invariant-items : goal.invariant-items
invariant-items g l = record {
  made : l.items.items ++ map (λ change. change.1) (into_iter_items l.rest) ≡ map (λ change. change.1) l.fn.changes.items;
  left : length (into_iter_items l.rest) + l.k ≡ length l.fn.changes.items;
}
