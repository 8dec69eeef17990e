-- A step for each node so far.
use Rattle.std.proofs.Common.{◌≡◌, ◌+◌}
use Rattle.tree_nodes.proofs.work.layer_step.Given as goal

abbrev pub invariant-above : goal.invariant-above
invariant-above g l = l.steps ≡ l.fn.steps + l.counter
