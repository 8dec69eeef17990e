use Rattle.std.proofs.Common.{arith}
use Rattle.committees.proofs.planes.join.Goals as goal

pub returns : goal.returns
returns c = λ k less. c.loop-i.invariant k (omega arith)
