use Rattle.std.proofs.Common.{◌≡◌, drop}
use Rattle.spec_blocks.specs.Checks.{each_of}
use Rattle.transition.specs.inside.Operations.{by_exit}
use Rattle.transition.proofs.process_operations.voluntary_exits.Given as goal

abbrev pub invariant-loop-exit : goal.invariant-loop-exit
invariant-loop-exit l = each_of (by_exit l.config) l.state (drop l.exit-index l.exits) ≡ each_of (by_exit l.config) l.fn.state l.exits
