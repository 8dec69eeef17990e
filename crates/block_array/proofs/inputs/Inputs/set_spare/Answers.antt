use Rattle.std.proofs.Common.{◌+◌, ◌≤◌, length, sym, subst}
use Rattle.block_array.specs.inside.Held.{Held}
use Rattle.block_array.specs.inside.Inputs.{held_of}
use Rattle.block_array.proofs.Holding.{kept_spare}
use Rattle.block_array.proofs.inputs.Inputs.set_spare.Goals as goal

pub invariant_of-self : goal.invariant_of-self
invariant_of-self c = kept_spare (held_of c.self.inside) c.self.invariant c.args.nodes c.args.validators (subst (λ (v : Held). length v.array.nodes + c.args.nodes ≤ v.node_room) (sym c.self.view_is) c.requires.nodes) (subst (λ (v : Held). c.args.validators ≤ v.message_room) (sym c.self.view_is) c.requires.messages) (subst (λ (v : Held). c.args.validators ≤ v.changed_room) (sym c.self.view_is) c.requires.changed) (subst (λ (v : Held). c.args.validators ≤ v.silenced_room) (sym c.self.view_is) c.requires.silenced) c.requires.few
