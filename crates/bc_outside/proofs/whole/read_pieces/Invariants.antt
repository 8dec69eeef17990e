use Rattle.std.proofs.Common.{◌≡◌, ◌≤◌, ◌-◌, false, [], length}
use Rattle.bc_outside.specs.Calls.{ShelfKeeps, Takes}
use Rattle.bc_outside.proofs.whole.read_pieces.Given as goal

abbrev pub invariant-loop-bytes : goal.invariant-loop-bytes
invariant-loop-bytes g l = record {
  within : length l.bytes.items ≤ l.limit;
  room : length l.piece ≡ length l.initial.piece;
  taken : Takes l.file l.bytes.items false (g.F.Shelf.told l.initial.shelf) (g.F.Shelf.told l.shelf);
  keeps : ShelfKeeps [] (g.F.Shelf.told l.initial.shelf) (g.F.Shelf.told l.shelf);
}

abbrev pub decreases-loop-bytes : goal.decreases-loop-bytes
decreases-loop-bytes g l = l.limit - length l.bytes.items
