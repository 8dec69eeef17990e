use Rattle.std.proofs.Common.{◌≡◌, drop}
use Rattle.bc_outside.specs.Memory.{is_listed}
use Rattle.bc_outside.proofs.memory_shelf.is_listed.Given as goal

abbrev pub invariant-loop-n : goal.invariant-loop-n
invariant-loop-n l = is_listed (drop l.n-index l.numbers) l.number ≡ is_listed l.numbers l.number
