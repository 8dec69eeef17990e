use Rattle.std.proofs.Common.{◌≡◌}
use Rattle.block_operations.proofs.Xor.{mixed_to}
use Rattle.block_operations.proofs.process_randao.xor.Given as goal

abbrev pub invariant-loop-i : goal.invariant-loop-i
invariant-loop-i l = l.mixed ≡ mixed_to l.bytes_1 l.bytes_2 l.i
