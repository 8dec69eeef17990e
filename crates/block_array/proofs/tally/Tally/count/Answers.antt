use Rattle.std.proofs.Common.{◌<◌, false, length, get_or, sym, subst, arith}
use Rattle.block_array.specs.inside.Tallies.{boost_of}
use Rattle.block_array.specs.inside.Counts.{Counts}
use Rattle.block_array.proofs.Counting.{old_counted, count_fits, tally_counted_as}
use Rattle.block_array.proofs.tally.Tally.count.Goals as goal

pub take_from-requires-clause-enough : goal.take_from-requires-clause-enough
take_from-requires-clause-enough c = let h = old_counted _ _ _ c.self.invariant c.args.validator c.index-old.result.now (subst (λ (v : Counts). c.args.validator < length v.validators) (sym c.self.view_is) c.requires.validator) c.index-old.ensures in omega (arith, c.from.ensures)

pub add_to-requires-clause-fits : goal.add_to-requires-clause-fits
add_to-requires-clause-fits c =
    let f = count_fits c.self.inside.own.items (boost_of c.self.inside) c.self.inside.counted.items c.self.invariant c.args.validator c.index-old.result.now (subst (λ (v : Counts). c.args.validator < length v.validators) (sym c.self.view_is) c.requires.validator) c.index-old.ensures (get_or c.take_from.new.own.items c.index-old.result.now.node 0) (let h = c.take_from.ensures.less in omega (arith, c.from.ensures)) (record { node = c.args.node; balance = c.args.balance; changed = false }) (subst (λ (v : Counts). c.args.node < v.nodes) (sym c.self.view_is) c.requires.node) c.ranges.balance.fits in
    rw c.take_from.ensures.set (rw c.from-2.ensures f)

pub invariant_of-self : goal.invariant_of-self
invariant_of-self c =
    tally_counted_as c.self.inside.own.items (boost_of c.self.inside) c.self.inside.counted.items c.self.invariant c.args.validator c.index-old.result.now (subst (λ (v : Counts). c.args.validator < length v.validators) (sym c.self.view_is) c.requires.validator) c.index-old.ensures (get_or c.take_from.new.own.items c.index-old.result.now.node 0) (let h = c.take_from.ensures.less in omega (arith, c.from.ensures)) (record { node = c.args.node; balance = c.args.balance; changed = false }) (subst (λ (v : Counts). c.args.node < v.nodes) (sym c.self.view_is) c.requires.node) c.ranges.balance.fits c.take_from.new.own.items c.add_to.new.own.items c.from-2.result c.from-2.ensures c.take_from.ensures.set c.add_to.ensures.set
