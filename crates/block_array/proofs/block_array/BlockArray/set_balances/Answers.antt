use Rattle.std.proofs.Common.{◌≡◌, ap, arith}
use Rattle.block_array.specs.inside.Held.{Held}
use Rattle.block_array.proofs.Whole.{kept_balances}
use Rattle.block_array.proofs.block_array.BlockArray.set_balances.Goals as goal

pub invariant_of-self : goal.invariant_of-self
invariant_of-self c = kept_balances c.self.inside.inputs.array c.self.inside.tally c.self.inside.bests.items _ _ c.set_balances.new.self.changed_room c.self.invariant (let e : c.set_balances.new.self.changed_room ≡ c.self.inside.inputs.changed_room = ap (λ (h : Held). h.changed_room) c.set_balances.ensures in omega arith) c.set_balances.new.self.array c.args.list.items c.args.count c.args.total (ap (λ (h : Held). h.array) c.set_balances.ensures)
