use Rattle.std.proofs.Common.{◌≡◌, ◌-◌, ◌%◌, ◌<◌, ◌≤◌}
use Rattle.committees.specs.inside.Pass.{by_source, Passed}
use Rattle.committees.proofs.narrow.swap_planes.Given as goal

abbrev pub invariant-loop-position : goal.invariant-loop-position
invariant-loop-position l = record {
  from : l.first ≤ l.position;
  to : l.position ≤ l.end;
  whole : (l.end - l.position) % 16 ≡ 0;
  aligned : l.position < l.end → l.position % 16 ≡ 0;
  low : Passed (by_source l.source l.sum) l.sum l.first l.position l.fn.low l.low;
  middle : Passed (by_source l.source l.sum) l.sum l.first l.position l.fn.middle l.middle;
  high : Passed (by_source l.source l.sum) l.sum l.first l.position l.fn.high l.high;
}

abbrev pub decreases-loop-position : goal.decreases-loop-position
decreases-loop-position l = l.end - l.position
