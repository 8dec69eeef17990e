use Rattle.std.proofs.Common.{◌<◌, length}
use Rattle.layer_tests.proofs.records.frames_end.Given as goal

abbrev pub invariant-loop : goal.invariant-loop
invariant-loop g l = l.frames.file < length (g.F.Shelf.told l.shelf).files
