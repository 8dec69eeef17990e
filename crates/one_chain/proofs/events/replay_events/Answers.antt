-- One event more, or the run is over.
use Rattle.std.proofs.Common.{[], subst, sym}
use Rattle.record_file.specs.Sources.{IsOpenedFile}
use Rattle.record_file.proofs.Supplying.{opened_on}
use Rattle.one_chain.specs.inside.Progress.{tally_at}
use Rattle.one_chain.proofs.OneByOne.{no_progress, progress_then, over_then, over_command}
use Rattle.one_chain.proofs.Outside.{untouched, outside_then}
use Rattle.one_chain.proofs.events.replay_events.Goals as goal

pub events-init : goal.events-init
events-init g c = record {
  progress = no_progress (tally_at c.args.store.now.plain c.args.counts.now) (g.S.EventSource.seen c.args.source.now) (g.F.Shelf.told c.args.shelf.now) (g.O.Sink.told c.args.out.now).taken;
  outside = untouched (g.F.Shelf.told c.args.shelf.now) (g.O.Sink.told c.args.out.now);
  few = c.requires.few;
  events = c.requires.events;
  accepted = c.requires.accepted;
  fits = c.requires.fits;
}

pub replay_event-requires-clause-opened : goal.replay_event-requires-clause-opened
replay_event-requires-clause-opened g c =
    subst (λ file. IsOpenedFile file (g.F.Shelf.told c.events.shelf)) (sym c.events.invariant.progress.file)
    (opened_on (g.S.EventSource.seen c.args.source.now).file (g.F.Shelf.told c.args.shelf.now) (g.F.Shelf.told c.events.shelf) c.events.invariant.outside.shelf.opened c.requires.opened)

pub events-preserved : goal.events-preserved
events-preserved g c = record {
  progress = progress_then c.events.invariant.progress c.in_default.ensures.goes_on.0;
  outside = outside_then [] [] c.events.invariant.outside c.in_default.ensures.outside;
  few = c.in_default.ensures.goes_on.2;
  events = c.in_default.ensures.goes_on.3;
  accepted = c.in_default.ensures.goes_on.4;
  fits = c.in_default.ensures.goes_on.5;
}

pub returns-in-Some-clause-over : goal.returns-in-Some-clause-over
returns-in-Some-clause-over g c = over_then c.events.invariant.progress c.in-Some.ensures.over

pub returns-in-Some-clause-command : goal.returns-in-Some-clause-command
returns-in-Some-clause-command g c = over_command c.in-Some.status _ _ _ _ _ _ _ c.in-Some.ensures.over

pub returns-in-Some-clause-outside : goal.returns-in-Some-clause-outside
returns-in-Some-clause-outside g c = outside_then [] [] c.events.invariant.outside c.in-Some.ensures.outside
