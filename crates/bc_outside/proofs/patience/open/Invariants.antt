use Rattle.std.proofs.Common.{◌≡◌}
use Rattle.bc_outside.specs.inside.Tries.{interrupted_by}
use Rattle.bc_outside.proofs.patience.open.Given as goal

abbrev pub invariant-loop : goal.invariant-loop
invariant-loop g l = record {
  tried : l.faults ≡ interrupted_by l.counter l.initial.faults;
}
