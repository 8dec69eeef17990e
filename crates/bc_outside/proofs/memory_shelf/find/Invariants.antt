use Rattle.std.proofs.Common.{◌≡◌, drop}
use Rattle.bc_outside.specs.Memory.{held_in}
use Rattle.bc_outside.proofs.memory_shelf.find.Given as goal

abbrev pub invariant-loop-file : goal.invariant-loop-file
invariant-loop-file l = held_in (drop l.file-index l.files) l.name ≡ held_in l.files l.name
