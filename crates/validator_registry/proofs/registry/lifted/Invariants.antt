-- The root so far stands for the same chunks.
use Rattle.std.proofs.Common.{◌≡◌, ◌+◌, ◌≤◌}
use Rattle.tree_nodes.specs.inside.Lifts.{Lifts}
use Rattle.validator_registry.proofs.registry.lifted.Given as goal

abbrev pub invariant-levels : goal.invariant-levels
invariant-levels g l = record { from : l.low ≤ l.level; lifts : Lifts l.low l.level l.fn.root l.top; steps : l.steps + l.low ≡ l.fn.steps + l.level }
