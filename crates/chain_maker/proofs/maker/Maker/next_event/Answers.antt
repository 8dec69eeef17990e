-- What is given is accepted.
use Rattle.chain_maker.proofs.maker.Maker.next_event.Goals as goal

pub returns-in-Ok-Some-clause-accepted : goal.returns-in-Ok-Some-clause-accepted
returns-in-Ok-Some-clause-accepted c given store none has e = rw c.in-Ok-Some.field-0-is at (c.in-Ok-Some.ensures.accepted given store none has e)
