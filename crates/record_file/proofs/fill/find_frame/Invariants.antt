use Rattle.std.proofs.Common.{◌+◌, ◌-◌, false, [], length}
use Rattle.bc_outside.specs.Calls.{ShelfKeeps}
use Rattle.record_file.specs.inside.Fetched.{Fetched}
use Rattle.record_file.proofs.fill.find_frame.Given as goal

abbrev pub invariant-loop-version : goal.invariant-loop-version
invariant-loop-version g l = record {
  fetched : Fetched l.file false l.initial.buffer l.buffer (g.F.Shelf.told l.initial.shelf) (g.F.Shelf.told l.shelf);
  keeps : ShelfKeeps [] (g.F.Shelf.told l.initial.shelf) (g.F.Shelf.told l.shelf);
}

abbrev pub decreases-loop-version : goal.decreases-loop-version
decreases-loop-version g l = 5 + 4194304 - length l.buffer
