use Rattle.std.proofs.Common.{◌+◌, ◌≤◌}
use Rattle.fork_store.proofs.step_again.number_again.Given as goal

abbrev pub invariant-loop-number : goal.invariant-loop-number
invariant-loop-number l = l.parent + 1 ≤ l.number
