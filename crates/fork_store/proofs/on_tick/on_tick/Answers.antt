use Rattle.std.proofs.Common.{◌∙◌, ap, refl, subst, sym}
use Rattle.spec_fork_choice.specs.Store.{Store}
use Rattle.fork_store.specs.declared.follow.Told.{Told}
use Rattle.fork_store.specs.inside.Wholes.{IsWhole}
use Rattle.fork_store.proofs.Stays.{stop_leaves}
use Rattle.fork_store.proofs.Ticks.{tick_array, tick_best, tick_kept, tick_moved, tick_ready, tick_whole}
use Rattle.fork_store.proofs.Walks.{whole_nodes}
use Rattle.fork_store.proofs.on_tick.on_tick.Goals as goal

pub tick-requires : goal.tick-requires
tick-requires c = whole_nodes c.args.store.now c.args.array.now c.args.ready.now c.requires

pub follow_tick-requires-clause-array : goal.follow_tick-requires-clause-array
follow_tick-requires-clause-array c = rw c.told_of-before.ensures (tick_array c.args.store.now c.tick.new.store c.args.time c.args.array.now c.args.ready.now c.requires c.in_ok-tick.ensures.exact)

pub follow_tick-requires-clause-ready : goal.follow_tick-requires-clause-ready
follow_tick-requires-clause-ready c = rw c.told_of-before.ensures (tick_ready c.args.store.now c.tick.new.store c.args.time c.args.array.now c.args.ready.now c.requires c.in_ok-tick.ensures.exact)

pub follow_tick-requires-clause-best : goal.follow_tick-requires-clause-best
follow_tick-requires-clause-best c = rw c.told_of-before.ensures (tick_best c.args.store.now c.tick.new.store c.args.time c.args.array.now c.args.ready.now c.requires c.in_ok-tick.ensures.exact)

pub follow_tick-requires-clause-moved : goal.follow_tick-requires-clause-moved
follow_tick-requires-clause-moved c = rw c.told_of-before.ensures (tick_moved c.args.store.now c.tick.new.store c.args.time c.args.array.now c.args.ready.now c.requires c.in_ok-tick.ensures.exact)

pub follow_tick-requires-clause-kept : goal.follow_tick-requires-clause-kept
follow_tick-requires-clause-kept c = tick_kept c.args.store.now c.tick.new.store c.args.time c.args.array.now c.args.ready.now c.requires c.in_ok-tick.ensures.exact

pub returns-in_err-tick-clause-whole : goal.returns-in_err-tick-clause-whole
returns-in_err-tick-clause-whole c = subst (λ (s : Store). IsWhole s c.args.array.now c.args.ready.now) (sym c.in_err-tick.ensures.exact.0) c.requires

pub returns-clause-exact : goal.returns-clause-exact
returns-clause-exact c = c.in_ok-tick.ensures.exact

pub returns-clause-whole : goal.returns-clause-whole
returns-clause-whole c =
    tick_whole c.args.store.now c.tick.new.store c.args.time c.args.array.now c.args.ready.now c.requires c.in_ok-tick.ensures.exact
    c.follow_tick.new.array c.follow_tick.new.ready c.follow_tick.ensures.array c.follow_tick.ensures.ready

pub returns-clause-balances_set_stays : goal.returns-clause-balances_set_stays
returns-clause-balances_set_stays c = λ is. c.follow_tick.ensures.balances_set_stays (is ∙ sym (ap (λ (t : Told). t.justified) c.told_of-before.ensures))

pub returns-in_err-tick-clause-stays : goal.returns-in_err-tick-clause-stays
returns-in_err-tick-clause-stays c = stop_leaves _ refl
