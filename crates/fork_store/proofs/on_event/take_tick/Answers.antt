use Rattle.spec_fork_choice.specs.OnTick.{on_tick}
use Rattle.fork_store.proofs.Events.{tick_refused}
use Rattle.fork_store.proofs.StoreStays.{same_stays}
use Rattle.fork_store.proofs.on_event.take_tick.Goals as goal

pub returns-in-Err-clause-exact : goal.returns-in-Err-clause-exact
returns-in-Err-clause-exact c =
    let both = rw c.in-Err.is at c.on_tick.ensures.exact in
    (both.0, tick_refused (on_tick c.args.store.now.plain c.args.time) c.in-Err.why both.1)

pub returns-in-Err-clause-stays : goal.returns-in-Err-clause-stays
returns-in-Err-clause-stays c = same_stays c.args.store.now c.on_tick.new.self (rw c.in-Err.is at c.on_tick.ensures.stays)
