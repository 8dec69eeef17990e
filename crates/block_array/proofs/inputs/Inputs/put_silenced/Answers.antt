use Rattle.block_array.specs.inside.Inputs.{held_of}
use Rattle.block_array.proofs.Holding.{kept_silenced}
use Rattle.block_array.proofs.inputs.Inputs.put_silenced.Goals as goal

pub invariant_of-self : goal.invariant_of-self
invariant_of-self c = kept_silenced (held_of c.self.inside) c.self.invariant _ _ c.insert.ensures.room
