-- The events are at their end, one could not be read, the run ends at one, or one was followed.
use Rattle.std.proofs.Common.{arith}
use Rattle.beacon_node.specs.inside.Following.{followed_by}
use Rattle.beacon_node.proofs.Following.{event_behind, event_ends, events_over, inside_only, no_more_events, same_beside, stop_outside}
use Rattle.beacon_node.proofs.follow.follow_next.Goals as goal

pub returns-in-Ok-None-clause-over : goal.returns-in-Ok-None-clause-over
returns-in-Ok-None-clause-over g c =
    events_over c.args.side (followed_by c.args.side c.args.store.now.plain c.args.book.now) (g.S.EventSource.seen c.args.source.now) (g.S.EventSource.seen c.next_event.new.self) _ _ (rw c.in-Ok-None.field-0-is at c.in-Ok-None.ensures.next)

pub returns-in-Err-clause-over : goal.returns-in-Err-clause-over
returns-in-Err-clause-over g c =
    rw c.no_event_of.ensures (no_more_events c.args.side c.in-Err.stop (followed_by c.args.side c.args.store.now.plain c.args.book.now) _ (g.S.EventSource.seen c.args.source.now) (g.S.EventSource.seen c.next_event.new.self) _ _ c.in-Err.ensures.next)

pub returns-in-Ok-clause-goes_on : goal.returns-in-Ok-clause-goes_on
returns-in-Ok-clause-goes_on g c =
    let next = rw c.in-Ok-Some.field-0-is at c.in-Ok-Some.ensures.next in
    let counts = rw c.in-Ok-Some.field-0-is at c.in-Ok-Some.ensures.counts in (
      event_behind c.args.side c.in-Ok-Some.event (g.S.EventSource.seen c.args.source.now) (g.S.EventSource.seen c.next_event.new.self) (followed_by c.args.side c.args.store.now.plain c.args.book.now) _ _ next counts.0 _ c.in-Ok-Some.ensures.file (rw c.given.ensures at c.in-Ok.ensures.followed),
      record { events = counts.0; within = counts.1 },
      omega (arith, c.in-Ok.ensures.few, c.requires.few, counts.0),
    )

pub returns-clause-over : goal.returns-clause-over
returns-clause-over g c =
    let next = rw c.in-Ok-Some.field-0-is at c.in-Ok-Some.ensures.next in
    let counts = rw c.in-Ok-Some.field-0-is at c.in-Ok-Some.ensures.counts in
    event_ends c.args.side c.in-Ok-Some.event (g.S.EventSource.seen c.args.source.now) (g.S.EventSource.seen c.next_event.new.self) (followed_by c.args.side c.args.store.now.plain c.args.book.now) _ _ next counts.0 c.in-Err-follow_event.status _ (rw c.given.ensures at c.in-Err-follow_event.ensures.over)

pub returns-in-Ok-None-clause-same : goal.returns-in-Ok-None-clause-same
returns-in-Ok-None-clause-same g c = same_beside c.args.side c.args.book.now

pub returns-in-Err-clause-same : goal.returns-in-Err-clause-same
returns-in-Err-clause-same g c = same_beside c.args.side c.args.book.now

pub returns-in-Ok-None-clause-outside : goal.returns-in-Ok-None-clause-outside
returns-in-Ok-None-clause-outside g c = record { shelf = c.next_event.ensures.keeps; read = tt; others = tt }

pub returns-in-Err-clause-outside : goal.returns-in-Err-clause-outside
returns-in-Err-clause-outside g c = rw c.no_event_of.ensures (stop_outside c.args.side c.in-Err.stop c.in-Err.ensures.causes c.next_event.ensures.keeps)

pub returns-clause-outside : goal.returns-clause-outside
returns-clause-outside g c = inside_only c.in-Err-follow_event.status c.in-Err-follow_event.ensures.inside c.next_event.ensures.keeps
