use Rattle.block_array.specs.inside.Inputs.{held_of}
use Rattle.block_array.proofs.Holding.{kept_balances}
use Rattle.block_array.proofs.inputs.Inputs.set_balances.Goals as goal

pub invariant_of-self : goal.invariant_of-self
invariant_of-self c = kept_balances (held_of c.self.inside) c.self.invariant c.args.list.items c.args.count c.args.total c.requires.few c.requires.low
