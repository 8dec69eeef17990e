use Rattle.std.proofs.Common.{◌≡◌, ap, arith}
use Rattle.block_array.specs.inside.Held.{Held}
use Rattle.block_array.proofs.Whole.{kept_boost}
use Rattle.block_array.proofs.block_array.BlockArray.boost.Goals as goal

pub invariant_of-self : goal.invariant_of-self
invariant_of-self c = kept_boost c.self.inside.inputs.array c.self.inside.tally c.self.inside.bests.items _ _ c.set_boosted_node.new.self.changed_room c.self.invariant (let e : c.set_boosted_node.new.self.changed_room ≡ c.self.inside.inputs.changed_room = ap (λ (h : Held). h.changed_room) c.set_boosted_node.ensures in omega arith) c.set_boosted_node.new.self.array c.args.node (ap (λ (h : Held). h.array) c.set_boosted_node.ensures)
