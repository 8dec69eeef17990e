-- Each turn writes some of what is left.
use Rattle.std.proofs.Common.{◌-◌, length}
use Rattle.std.specs.Bool.{⊤}
use Rattle.beacon.proofs.waiting.Waiting.write_from.Given as goal

abbrev pub invariant-loop-at : goal.invariant-loop-at
invariant-loop-at g l = ⊤

abbrev pub decreases-loop-at : goal.decreases-loop-at
decreases-loop-at g l = length l.bytes - l.at
