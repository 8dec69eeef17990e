use Rattle.std.proofs.Common.{◌<◌, length, sym, subst}
use Rattle.block_array.specs.inside.Held.{Held}
use Rattle.block_array.specs.inside.Inputs.{held_of}
use Rattle.block_array.proofs.Holding.{kept_message}
use Rattle.block_array.proofs.inputs.Inputs.put_message.Goals as goal

pub invariant_of-self : goal.invariant_of-self
invariant_of-self c = kept_message (held_of c.self.inside) c.self.invariant c.args.validator c.args.message c.put.new.items.items _ c.put.ensures.room c.put.ensures.exact c.requires.few (subst (λ (v : Held). c.args.message.node < length v.array.nodes) (sym c.self.view_is) c.requires.node)
