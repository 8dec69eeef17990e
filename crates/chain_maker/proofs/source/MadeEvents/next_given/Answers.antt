-- What the maker gives, counted.
use Rattle.std.proofs.Common.{Option}
use Rattle.chain_maker.specs.declared.given.Given.{Given}
use Rattle.chain_maker.proofs.Sourced.{given_next, given_kind, none_next, stop_next, stop_causes}
use Rattle.chain_maker.proofs.source.MadeEvents.next_given.Goals as goal

pub returns-in-Ok-Some-clause-next : goal.returns-in-Ok-Some-clause-next
returns-in-Ok-Some-clause-next c told =
    let next = rw c.in-Ok-Some.field-0-is at c.in-Ok-Some.ensures.gives in
    rw (← c.self.view_is) (given_next c.self.inside.maker c.next_given.new.self c.self.inside.given c.in-Ok-Some.given.event next told)

pub returns-in-Ok-Some-clause-kind : goal.returns-in-Ok-Some-clause-kind
returns-in-Ok-Some-clause-kind c =
    let next = rw c.in-Ok-Some.field-0-is at c.in-Ok-Some.ensures.gives in
    given_kind c.self.inside.maker c.next_given.new.self c.self.inside.given c.in-Ok-Some.given.event next

pub returns-in-Ok-None-clause-next : goal.returns-in-Ok-None-clause-next
returns-in-Ok-None-clause-next c told =
    let next = rw c.in-Ok-None.field-0-is at c.in-Ok-None.ensures.gives in
    rw (← c.self.view_is) (none_next c.self.inside.maker c.next_given.new.self c.self.inside.given told next)

pub returns-in-Err-clause-next : goal.returns-in-Err-clause-next
returns-in-Err-clause-next c told =
    rw (c.stop_of.ensures, ← c.self.view_is) (stop_next c.self.inside.maker c.next_given.new.self c.self.inside.given c.in-Err.stop told c.in-Err.ensures.gives)

pub returns-in-Err-clause-causes : goal.returns-in-Err-clause-causes
returns-in-Err-clause-causes c faults = rw c.stop_of.ensures (stop_causes (Option Given) c.self.inside.given c.in-Err.stop faults)
