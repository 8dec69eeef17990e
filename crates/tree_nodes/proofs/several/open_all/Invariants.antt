-- The plans so far are open, and the others are left.
use Rattle.std.proofs.Common.{◌≡◌, ◌+◌, length, take, drop}
use Rattle.std.specs.Vec.Iter.{into_iter_items}
use Rattle.tree_nodes.specs.inside.Plans.{AreOpen}
use Rattle.tree_nodes.proofs.several.open_all.Given as goal

abbrev pub invariant-plans : goal.invariant-plans
invariant-plans g l = record {
  rest : into_iter_items l.rest ≡ drop l.k l.fn.plans.items;
  left : length (into_iter_items l.rest) + l.k ≡ length l.fn.plans.items;
  so_far : AreOpen (take l.k l.fn.plans.items) l.spots.items l.halves.items;
}
