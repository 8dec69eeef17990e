use Rattle.spec_fork_choice.specs.OnAttesterSlashing.{on_attester_slashing}
use Rattle.fork_store.proofs.Events.{vote_stops}
use Rattle.fork_store.proofs.StoreStays.{same_stays}
use Rattle.fork_store.proofs.on_event.take_attester_slashing.Goals as goal

pub returns-in-Err-clause-exact : goal.returns-in-Err-clause-exact
returns-in-Err-clause-exact c =
    let both = rw c.in-Err.is at c.on_attester_slashing.ensures.exact in
    (both.0, vote_stops (on_attester_slashing c.args.store.now.plain c.args.slashing.now) c.in-Err.stop both.1)

pub returns-in-Err-clause-stays : goal.returns-in-Err-clause-stays
returns-in-Err-clause-stays c = same_stays c.args.store.now c.on_attester_slashing.new.self (rw c.in-Err.is at c.on_attester_slashing.ensures.stays)

pub returns-in-Ok-clause-balances_set_stays : goal.returns-in-Ok-clause-balances_set_stays
returns-in-Ok-clause-balances_set_stays c = λ _. c.on_attester_slashing.ensures.balances_set_stays

pub returns-in-Err-clause-balances_set_stays : goal.returns-in-Err-clause-balances_set_stays
returns-in-Err-clause-balances_set_stays c = λ _. c.on_attester_slashing.ensures.balances_set_stays
