use Rattle.spec_slasher.proofs.Events.{rises, stays_below}
use Rattle.spec_slasher.proofs.laws.events_stay_in_order.Goals as goal

pub returns-clause-order : goal.returns-clause-order
returns-clause-order c = λ event history store accepted rise below. rises event history rise below store accepted

pub returns-clause-below : goal.returns-clause-below
returns-clause-below c = λ event history store accepted rise below k d inside. stays_below event history rise below store accepted k d inside
