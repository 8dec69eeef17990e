-- What the maker gives, without a block's step.
use Rattle.chain_maker.proofs.source.MadeEventsEventSource.next_event.Goals as goal

pub returns-in-Ok-Some-clause-next : goal.returns-in-Ok-Some-clause-next
returns-in-Ok-Some-clause-next g c = rw c.in-Ok-Some.field-0-is at (c.in-Ok-Some.ensures.next (g.F.Shelf.told c.args._shelf.now))

pub returns-in-Ok-None-clause-next : goal.returns-in-Ok-None-clause-next
returns-in-Ok-None-clause-next g c = rw c.in-Ok-None.field-0-is at (c.in-Ok-None.ensures.next (g.F.Shelf.told c.args._shelf.now))

pub returns-in-Err-clause-next : goal.returns-in-Err-clause-next
returns-in-Err-clause-next g c = c.in-Err.ensures.next _

pub returns-in-Err-clause-causes : goal.returns-in-Err-clause-causes
returns-in-Err-clause-causes g c = c.in-Err.ensures.causes _
