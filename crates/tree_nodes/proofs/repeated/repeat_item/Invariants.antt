-- The node so far is the tree of the level.
use Rattle.std.proofs.Common.{◌≡◌, ◌≤◌, ◌^◌, replicate}
use Rattle.tree_nodes.proofs.repeated.repeat_item.Given as goal

abbrev pub invariant-levels : goal.invariant-levels
invariant-levels g l = record {
  upto : l.level ≤ l.depth;
  node : l.node ≡ (l.level, replicate (2 ^ l.level) l.fn.item);
}
