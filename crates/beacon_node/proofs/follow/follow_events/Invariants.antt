-- So far some events were followed, and the others are still to come.
use Rattle.std.proofs.Common.{◌-◌, ◌+◌, ◌≤◌, [], length}
use Rattle.bc_outside.specs.Calls.{ShelfKeeps}
use Rattle.record_file.specs.Record.{most_events}
use Rattle.beacon_node.specs.inside.Following.{FollowedSoFar, IsFollowing, SameBeside, followed_by}
use Rattle.beacon_node.proofs.follow.follow_events.Given as goal

abbrev pub invariant-events : goal.invariant-events
invariant-events g l = record {
  progress : FollowedSoFar l.side (followed_by l.side l.initial.store.plain l.initial.book) (g.S.EventSource.seen l.initial.source) (g.F.Shelf.told l.initial.shelf) (followed_by l.side l.store.plain l.book) (g.S.EventSource.seen l.source) (g.F.Shelf.told l.shelf);
  following : IsFollowing l.side l.genesis l.store.plain l.book;
  same : SameBeside l.side l.initial.book l.book;
  shelf : ShelfKeeps [] (g.F.Shelf.told l.initial.shelf) (g.F.Shelf.told l.shelf);
  few : length l.store.plain.blocks ≤ (g.S.EventSource.seen l.source).events + 1;
  most : (g.S.EventSource.seen l.source).events ≤ most_events;
}

abbrev pub decreases-events : goal.decreases-events
decreases-events g l = most_events - (g.S.EventSource.seen l.source).events
