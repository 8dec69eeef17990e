use Rattle.std.proofs.Common.{◌≡◌}
use Rattle.std.specs.Io.KnownBytes.{Keeps}
use Rattle.bc_outside.specs.inside.Tries.{interrupted_by}
use Rattle.bc_outside.proofs.patience.read.Given as goal

abbrev pub invariant-loop : goal.invariant-loop
invariant-loop g l = record {
  tried : l.faults ≡ interrupted_by l.counter l.initial.faults;
  kept : Keeps (g.R.Read.remaining l.initial.reader) (g.R.Read.remaining l.reader);
}
