use Rattle.std.proofs.Common.{◌≡◌}
use Rattle.std.specs.Io.KnownBytes.{Keeps}
use Rattle.bc_outside.specs.inside.Tries.{interrupted_by}
use Rattle.bc_outside.proofs.patience.write.Given as goal

abbrev pub invariant-loop : goal.invariant-loop
invariant-loop g l = record {
  tried : l.faults ≡ interrupted_by l.counter l.initial.faults;
  kept : Keeps (g.W.Write.contents l.initial.writer) (g.W.Write.contents l.writer);
}
