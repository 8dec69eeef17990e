use Rattle.std.proofs.Common.{arith}
use Rattle.block_array.specs.inside.Inputs.{held_of}
use Rattle.block_array.proofs.Holding.{kept_made}
use Rattle.block_array.proofs.inputs.Inputs.set_made.Goals as goal

pub invariant_of-self : goal.invariant_of-self
invariant_of-self c = kept_made (held_of c.self.inside) c.self.invariant _ _ (let e = c.clear.ensures.capacity in omega arith)
