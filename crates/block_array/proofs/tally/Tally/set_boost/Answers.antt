use Rattle.std.proofs.Common.{◌<◌, false, get_or, sym, subst}
use Rattle.block_array.specs.inside.Tallies.{boost_of}
use Rattle.block_array.specs.inside.Counts.{Counts}
use Rattle.block_array.proofs.Counting.{boost_counted, boost_fits, tally_boosted_as}
use Rattle.block_array.proofs.tally.Tally.set_boost.Goals as goal

pub take_from-requires-clause-enough : goal.take_from-requires-clause-enough
take_from-requires-clause-enough c = boost_counted _ _ _ c.self.invariant

pub add_to-requires-clause-fits : goal.add_to-requires-clause-fits
add_to-requires-clause-fits c =
    rw c.take_from.ensures.set (boost_fits c.self.inside.own.items (boost_of c.self.inside) c.self.inside.counted.items c.self.invariant (get_or c.take_from.new.own.items c.self.inside.boosted_node 0) c.take_from.ensures.less (record { node = c.args.node; balance = c.args.amount; changed = false }) (subst (λ (v : Counts). c.args.node < v.nodes) (sym c.self.view_is) c.requires.node) c.requires.low)

pub invariant_of-self : goal.invariant_of-self
invariant_of-self c =
    tally_boosted_as c.self.inside.own.items (boost_of c.self.inside) c.self.inside.counted.items c.self.invariant (get_or c.take_from.new.own.items c.self.inside.boosted_node 0) c.take_from.ensures.less (record { node = c.args.node; balance = c.args.amount; changed = false }) (subst (λ (v : Counts). c.args.node < v.nodes) (sym c.self.view_is) c.requires.node) c.requires.low c.take_from.new.own.items c.add_to.new.own.items c.take_from.ensures.set c.add_to.ensures.set
