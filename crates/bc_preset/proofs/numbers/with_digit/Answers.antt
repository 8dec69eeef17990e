use Rattle.std.proofs.Common.{rules}
use Rattle.bc_preset.specs.Numbers.{within_u64}
use Rattle.bc_preset.proofs.numbers.with_digit.Goals as goal

pub returns-in-Some : goal.returns-in-Some
unfolding within_u64
returns-in-Some c = search rules
