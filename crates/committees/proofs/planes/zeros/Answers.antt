use Rattle.std.proofs.Common.{arith}
use Rattle.committees.proofs.planes.zeros.Goals as goal

pub returns-in-Ok : goal.returns-in-Ok
returns-in-Ok c = omega (arith, c.in-Ok.ensures.len)
