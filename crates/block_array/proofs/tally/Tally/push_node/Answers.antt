use Rattle.std.proofs.Common.{sym, subst}
use Rattle.block_array.specs.inside.Tallies.{boost_of}
use Rattle.block_array.specs.inside.Counts.{IsTally}
use Rattle.block_array.proofs.Counting.{tally_node}
use Rattle.block_array.proofs.tally.Tally.push_node.Goals as goal

pub invariant_of-self : goal.invariant_of-self
invariant_of-self c = subst (λ own. IsTally own (boost_of c.self.inside) c.self.inside.counted.items) (sym c.push_item.ensures.pushed) (tally_node c.self.inside.own.items (boost_of c.self.inside) c.self.inside.counted.items c.self.invariant)
