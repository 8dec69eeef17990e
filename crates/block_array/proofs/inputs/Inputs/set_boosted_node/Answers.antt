use Rattle.std.proofs.Common.{◌<◌, IfSome, length, sym, subst}
use Rattle.block_array.specs.inside.Held.{Held}
use Rattle.block_array.specs.inside.Inputs.{held_of}
use Rattle.block_array.proofs.Holding.{kept_boost}
use Rattle.block_array.proofs.inputs.Inputs.set_boosted_node.Goals as goal

pub invariant_of-self : goal.invariant_of-self
invariant_of-self c = kept_boost (held_of c.self.inside) c.self.invariant c.args.node (subst (λ (v : Held). IfSome c.args.node (λ number. number < length v.array.nodes)) (sym c.self.view_is) c.requires)
