use Rattle.std.proofs.Common.{◌≡◌, ap, arith}
use Rattle.block_array.specs.inside.Held.{Held}
use Rattle.block_array.proofs.Whole.{kept_checkpoints}
use Rattle.block_array.proofs.block_array.BlockArray.set_checkpoints.Goals as goal

pub invariant_of-self : goal.invariant_of-self
invariant_of-self c = kept_checkpoints c.self.inside.inputs.array c.self.inside.tally c.self.inside.bests.items _ _ c.set_checkpoints.new.self.changed_room c.self.invariant (let e : c.set_checkpoints.new.self.changed_room ≡ c.self.inside.inputs.changed_room = ap (λ (h : Held). h.changed_room) c.set_checkpoints.ensures in omega arith) c.set_checkpoints.new.self.array c.args.node c.args.justified c.args.finalized (ap (λ (h : Held). h.array) c.set_checkpoints.ensures)
