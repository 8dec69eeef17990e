use Rattle.block_array.specs.inside.Inputs.{held_of}
use Rattle.block_array.proofs.Holding.{kept_changed}
use Rattle.block_array.proofs.inputs.Inputs.push_changed.Goals as goal

pub invariant_of-self : goal.invariant_of-self
invariant_of-self c = kept_changed (held_of c.self.inside) c.self.invariant _ _ c.push_item.ensures.room
