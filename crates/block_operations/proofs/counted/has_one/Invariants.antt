use Rattle.std.proofs.Common.{◌≡◌, drop}
use Rattle.std.specs.List.{list_any}
use Rattle.block_operations.proofs.counted.has_one.Given as goal

abbrev pub invariant-loop-i : goal.invariant-loop-i
invariant-loop-i l = list_any (λ bit. bit) (drop l.i l.bits) ≡ list_any (λ bit. bit) l.bits
