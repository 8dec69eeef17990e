use Rattle.std.proofs.Common.{arith}
use Rattle.state_parts.proofs.in_range.are_bytes.Goals as goal

pub returns : goal.returns
returns c = λ i. omega (arith, c.type_inv.bytes i)
