use Rattle.std.proofs.Common.{◌<◌, Some, length, sym, subst, refl}
use Rattle.block_array.specs.PlainArray.{slot_at}
use Rattle.block_array.specs.inside.Held.{Held}
use Rattle.block_array.specs.inside.Inputs.{held_of}
use Rattle.block_array.proofs.Holding.{kept_node}
use Rattle.block_array.proofs.inputs.Inputs.push.Goals as goal

pub invariant_of-self : goal.invariant_of-self
invariant_of-self c = kept_node (held_of c.self.inside) c.self.invariant (record { parent = Some c.args.parent; slot = c.args.slot; root = c.args.root; facts = c.args.facts }) c.args.parent _ c.saturating_sub-self-inside.result c.push_item.new.items.items c.push_item.ensures.pushed c.saturating_sub-self-inside.ensures c.push_item.ensures.room (subst (λ (v : Held). length v.array.nodes < v.node_room) (sym c.self.view_is) c.requires.room) (subst (λ (v : Held). length v.array.nodes < 4294967295) (sym c.self.view_is) c.requires.few) refl (subst (λ (v : Held). c.args.parent < length v.array.nodes) (sym c.self.view_is) c.requires.parent) (subst (λ (v : Held). slot_at v.array.nodes c.args.parent < c.args.slot) (sym c.self.view_is) c.requires.later)
