-- Each lower depth has too few leaves.
use Rattle.std.proofs.Common.{◌+◌, ◌-◌, ◌*◌, ◌≤◌, ◌^◌}
use Rattle.tree_nodes.proofs.build.depth_over.Given as goal

abbrev pub invariant-levels : goal.invariant-levels
invariant-levels l = (l.low ≤ l.depth) × (2 ^ l.low ≤ 2 * l.len + 1)

abbrev pub decreases-levels : goal.decreases-levels
decreases-levels l = l.depth - l.low
