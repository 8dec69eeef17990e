-- A byte is below 256.
use Rattle.std.proofs.Common.{arith}
use Rattle.beacon_node.proofs.follow.are_bytes.Goals as goal

pub returns : goal.returns
returns c = λ i. omega (arith, c.type_inv.bytes i)
