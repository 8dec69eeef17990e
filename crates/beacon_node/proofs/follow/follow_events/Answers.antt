-- One event more, or the events are over.
use Rattle.std.proofs.Common.{[], subst, sym}
use Rattle.bc_outside.proofs.Keeping.{keeps_none, keeps_then}
use Rattle.record_file.specs.Sources.{IsOpenedFile}
use Rattle.record_file.proofs.Supplying.{opened_on}
use Rattle.beacon_node.specs.inside.Following.{followed_by}
use Rattle.beacon_node.proofs.Following.{beside_then, followed_then, followed_to_end, none_followed, outside_behind, same_beside}
use Rattle.beacon_node.proofs.follow.follow_events.Goals as goal

pub events-init : goal.events-init
events-init g c = record {
  progress = none_followed c.args.side (followed_by c.args.side c.args.store.now.plain c.args.book.now) (g.S.EventSource.seen c.args.source.now) (g.F.Shelf.told c.args.shelf.now);
  following = c.requires.following;
  same = same_beside c.args.side c.args.book.now;
  shelf = keeps_none (g.F.Shelf.told c.args.shelf.now);
  few = c.requires.few;
  most = c.requires.most;
}

pub follow_next-requires-clause-opened : goal.follow_next-requires-clause-opened
follow_next-requires-clause-opened g c =
    subst (λ file. IsOpenedFile file (g.F.Shelf.told c.events.shelf)) (sym c.events.invariant.progress.file)
    (opened_on (g.S.EventSource.seen c.args.source.now).file (g.F.Shelf.told c.args.shelf.now) (g.F.Shelf.told c.events.shelf) c.events.invariant.shelf.opened c.requires.opened)

pub events-preserved : goal.events-preserved
events-preserved g c = record {
  progress = followed_then c.events.invariant.progress c.in_default.ensures.goes_on.0;
  following = c.in_default.ensures.following;
  same = beside_then c.args.side _ _ _ c.events.invariant.same c.follow_next.ensures.same;
  shelf = keeps_then [] [] c.events.invariant.shelf c.follow_next.ensures.shelf;
  few = c.in_default.ensures.goes_on.2;
  most = c.in_default.ensures.goes_on.1.within;
}

pub returns-in-Some-clause-over : goal.returns-in-Some-clause-over
returns-in-Some-clause-over g c = followed_to_end c.events.invariant.progress c.in-Some.ensures.over

pub returns-in-Some-clause-same : goal.returns-in-Some-clause-same
returns-in-Some-clause-same g c = beside_then c.args.side _ _ _ c.events.invariant.same c.follow_next.ensures.same

pub returns-in-Some-clause-outside : goal.returns-in-Some-clause-outside
returns-in-Some-clause-outside g c = outside_behind [] [] _ c.events.invariant.shelf c.in-Some.ensures.outside
