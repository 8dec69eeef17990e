-- The depth is one of those that are tried.
use Rattle.std.proofs.Common.{◌-◌, ◌≤◌}
use Rattle.validator_registry.proofs.building.depth_over.Given as goal

abbrev pub invariant-depths : goal.invariant-depths
invariant-depths l = l.depth ≤ 36

abbrev pub decreases-depths : goal.decreases-depths
decreases-depths l = 36 - l.depth
