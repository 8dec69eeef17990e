use Rattle.std.proofs.Common.{◌≡◌, ◌<◌, ◌^◌, take}
use Rattle.bc_preset.specs.Numbers.{decimal_value}
use Rattle.bc_preset.proofs.numbers.value.Given as goal

-- the value of the digits so far
abbrev pub invariant-loop-b : goal.invariant-loop-b
invariant-loop-b l = (l.value ≡ decimal_value (take l.b-index l.digits)) × (l.value < 2 ^ 64)
