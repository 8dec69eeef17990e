use Rattle.std.proofs.Common.{◌<◌, length, sym, subst}
use Rattle.block_array.specs.inside.Held.{Held}
use Rattle.block_array.specs.inside.Inputs.{held_of}
use Rattle.block_array.proofs.Holding.{kept_checkpoints}
use Rattle.block_array.proofs.inputs.Inputs.set_checkpoints.Goals as goal

pub invariant_of-self : goal.invariant_of-self
invariant_of-self c = kept_checkpoints (held_of c.self.inside) c.self.invariant c.args.node c.args.justified c.args.finalized (subst (λ (v : Held). c.args.node < length v.array.nodes) (sym c.self.view_is) c.requires)
