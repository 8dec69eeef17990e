use Rattle.std.proofs.Common.{◌-◌, false, [], length}
use Rattle.bc_outside.specs.Calls.{ShelfKeeps}
use Rattle.record_file.specs.inside.Fetched.{Fetched}
use Rattle.record_file.proofs.fill.fill.Given as goal

abbrev pub invariant-loop-buffer : goal.invariant-loop-buffer
invariant-loop-buffer g l = record {
  fetched : Fetched l.file false l.initial.buffer l.buffer (g.F.Shelf.told l.initial.shelf) (g.F.Shelf.told l.shelf);
  keeps : ShelfKeeps [] (g.F.Shelf.told l.initial.shelf) (g.F.Shelf.told l.shelf);
}

abbrev pub decreases-loop-buffer : goal.decreases-loop-buffer
decreases-loop-buffer g l = l.want - length l.buffer
