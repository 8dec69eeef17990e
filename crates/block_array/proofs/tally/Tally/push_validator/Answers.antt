use Rattle.std.proofs.Common.{◌<◌, length, sym, subst}
use Rattle.block_array.specs.inside.Tallies.{boost_of}
use Rattle.block_array.specs.inside.Counts.{Counts, IsTally}
use Rattle.block_array.proofs.Counting.{tally_validator}
use Rattle.block_array.proofs.tally.Tally.push_validator.Goals as goal

pub invariant_of-self : goal.invariant_of-self
invariant_of-self c = subst (λ counted. IsTally c.self.inside.own.items (boost_of c.self.inside) counted) (sym c.push_item.ensures.pushed) (tally_validator c.self.inside.own.items (boost_of c.self.inside) c.self.inside.counted.items c.self.invariant (subst (λ (v : Counts). length v.validators < 1099511627776) (sym c.self.view_is) c.requires.few))
