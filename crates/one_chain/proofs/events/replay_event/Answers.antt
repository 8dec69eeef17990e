-- The events are at their end, one could not be read, the run is over at one, a line was written, or it could not be.
use Rattle.std.proofs.Common.{[], arith}
use Rattle.one_chain.specs.declared.status.Status.TheVariants as statuses
use Rattle.one_chain.specs.inside.Progress.{tally_at}
use Rattle.one_chain.proofs.Outside.{so_far, only_shelf, ends_here, no_fault, source_causes, event_causes, unwritten_causes}
use Rattle.one_chain.proofs.OneByOne.{over_done, over_stop, over_at, line_progress, line_over}
use Rattle.one_chain.proofs.events.replay_event.Goals as goal

pub returns-in-Ok-None-clause-over : goal.returns-in-Ok-None-clause-over
returns-in-Ok-None-clause-over g c =
    over_done (tally_at c.args.store.now.plain c.args.counts.now) (g.S.EventSource.seen c.args.source.now) (g.S.EventSource.seen c.next_for.new.self) _ _ _ (rw c.in-Ok-None.field-0-is at c.in-Ok-None.ensures.next)

pub returns-in-Err-clause-over : goal.returns-in-Err-clause-over
returns-in-Err-clause-over g c =
    rw c.no_event.ensures (over_stop c.in-Err.stop (tally_at c.args.store.now.plain c.args.counts.now) _ (g.S.EventSource.seen c.args.source.now) (g.S.EventSource.seen c.next_for.new.self) _ _ _ c.in-Err.ensures.next)

pub returns-in-Err-handle_event-clause-over : goal.returns-in-Err-handle_event-clause-over
returns-in-Err-handle_event-clause-over g c =
    let next = rw c.in-Ok-Some.field-0-is at c.in-Ok-Some.ensures.next in
    let counts = rw c.in-Ok-Some.field-0-is at c.in-Ok-Some.ensures.counts in
    over_at c.in-Ok-Some.event (g.S.EventSource.seen c.args.source.now) (g.S.EventSource.seen c.next_for.new.self) (tally_at c.args.store.now.plain c.args.counts.now) _ _ next counts.0 c.in-Err-handle_event.status _ _ (rw c.given-number.ensures at c.in-Err-handle_event.ensures.over)

pub returns-in-Ok-write_all-clause-goes_on : goal.returns-in-Ok-write_all-clause-goes_on
returns-in-Ok-write_all-clause-goes_on g c =
    let next = rw c.in-Ok-Some.field-0-is at c.in-Ok-Some.ensures.next in
    let counts = rw c.in-Ok-Some.field-0-is at c.in-Ok-Some.ensures.counts in
    let has = rw c.given-number.ensures at c.in-Ok.ensures.line in
    rw (c.tell_head.ensures, c.handle_event.ensures.seen) (
      (line_progress c.in-Ok-Some.event (g.S.EventSource.seen c.args.source.now) (g.S.EventSource.seen c.next_for.new.self) (tally_at c.args.store.now.plain c.args.counts.now) _ _ next counts.0 _ _ has c.in-Ok.ensures.counted _ _ c.in-Ok-Some.ensures.file (rw c.deref.ensures.value at c.in-Ok-write_all.ensures.writes)),
      record { events = counts.0; within = counts.1 },
      omega (arith, c.in-Ok.ensures.few, c.requires.few, counts.0),
      omega (arith, c.handle_event.ensures.one, c.requires.events, counts.0),
      omega (arith, c.handle_event.ensures.at_most, c.requires.accepted, counts.0),
      c.in-Ok.ensures.fits,
    )

pub returns-clause-over : goal.returns-clause-over
returns-clause-over g c =
    let next = rw c.in-Ok-Some.field-0-is at c.in-Ok-Some.ensures.next in
    let counts = rw c.in-Ok-Some.field-0-is at c.in-Ok-Some.ensures.counts in
    let has = rw c.given-number.ensures at c.in-Ok.ensures.line in
    rw c.unwritten.ensures (line_over c.in-Ok-Some.event (g.S.EventSource.seen c.args.source.now) (g.S.EventSource.seen c.next_for.new.self) (tally_at c.args.store.now.plain c.args.counts.now) _ _ next counts.0 _ _ has c.in-Ok.ensures.counted c.in-Err-write_all.trouble _ _ (rw c.deref.ensures.value at c.in-Err-write_all.ensures.writes))

pub returns-in-Ok-write_all-clause-over : goal.returns-in-Ok-write_all-clause-over
returns-in-Ok-write_all-clause-over g c = tt

pub returns-in-Ok-None-clause-outside : goal.returns-in-Ok-None-clause-outside
returns-in-Ok-None-clause-outside g c = ends_here [] [] (only_shelf c.next_for.ensures.keeps) (no_fault statuses.Done (λ is. cc) (λ is. cc))

pub returns-in-Err-clause-outside : goal.returns-in-Err-clause-outside
returns-in-Err-clause-outside g c =
    rw c.no_event.ensures (ends_here [] [] (only_shelf c.next_for.ensures.keeps) (source_causes c.in-Err.stop c.in-Err.ensures.causes))

pub returns-in-Err-handle_event-clause-outside : goal.returns-in-Err-handle_event-clause-outside
returns-in-Err-handle_event-clause-outside g c =
    ends_here [] [] (only_shelf c.next_for.ensures.keeps) (event_causes c.in-Err-handle_event.status _ _ c.in-Err-handle_event.ensures.over)

pub returns-in-Ok-write_all-clause-outside : goal.returns-in-Ok-write_all-clause-outside
returns-in-Ok-write_all-clause-outside g c = so_far c.next_for.ensures.keeps c.write_all.ensures.keeps

pub returns-clause-outside : goal.returns-clause-outside
returns-clause-outside g c =
    rw c.unwritten.ensures (ends_here [] [] (so_far c.next_for.ensures.keeps c.write_all.ensures.keeps) (unwritten_causes c.in-Err-write_all.trouble c.in-Err-write_all.ensures.causes))
