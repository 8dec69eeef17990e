-- So far the lines of some events were written, and the others are still to come.
use Rattle.std.proofs.Common.{◌-◌, ◌+◌, ◌≤◌, [], length, None}
use Rattle.record_file.specs.Record.{most_events}
use Rattle.one_chain.specs.Answers.{OutsideKeeps}
use Rattle.one_chain.specs.inside.Progress.{Progress, tally_at}
use Rattle.one_chain.proofs.events.replay_events.Given as goal

abbrev pub invariant-events : goal.invariant-events
invariant-events g l = record {
  progress : Progress (tally_at l.initial.store.plain l.initial.counts) (g.S.EventSource.seen l.initial.source) (g.F.Shelf.told l.initial.shelf) (g.O.Sink.told l.initial.out).taken (tally_at l.store.plain l.counts) (g.S.EventSource.seen l.source) (g.F.Shelf.told l.shelf) (g.O.Sink.told l.out).taken;
  outside : OutsideKeeps [] None (g.F.Shelf.told l.initial.shelf) (g.F.Shelf.told l.shelf) (g.O.Sink.told l.initial.out) (g.O.Sink.told l.out);
  few : length l.store.plain.blocks ≤ (g.S.EventSource.seen l.source).events + 1;
  events : l.counts.events ≤ (g.S.EventSource.seen l.source).events;
  accepted : l.counts.accepted ≤ (g.S.EventSource.seen l.source).events;
  fits : g.S.StoreSource.fits l.source l.store.plain;
}

abbrev pub decreases-events : goal.decreases-events
decreases-events g l = most_events - (g.S.EventSource.seen l.source).events
