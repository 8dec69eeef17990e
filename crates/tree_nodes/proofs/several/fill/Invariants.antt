-- The spots that are left stand behind the nodes so far.
use Rattle.std.proofs.Common.{◌≡◌, ◌+◌, ◌++◌, length}
use Rattle.std.specs.Vec.Iter.{into_iter_items}
use Rattle.tree_nodes.specs.inside.Plans.{gaps, filled}
use Rattle.tree_nodes.proofs.several.fill.Given as goal

abbrev pub invariant-spots : goal.invariant-spots
invariant-spots g l = record {
  made : l.nodes.items ++ filled (into_iter_items l.rest) (into_iter_items l.others) ≡ filled l.fn.spots.items l.fn.others.items;
  fit : gaps (into_iter_items l.rest) ≡ length (into_iter_items l.others);
  left : length (into_iter_items l.rest) + l.k ≡ length l.fn.spots.items;
}
