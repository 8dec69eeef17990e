use Rattle.std.proofs.Common.{◌-◌, length}
use Rattle.forensics.proofs.Bisecting.{IsBetween, HasLeftOf}
use Rattle.forensics.proofs.spans.bisect.place_of.Given as goal

abbrev pub invariant-loop-low : goal.invariant-loop-low
invariant-loop-low g l = record {
  between : IsBetween l.contents l.votes l.target l.low l.high;
  left : HasLeftOf (length l.votes) (l.high - l.low) l.fn.steps l.steps;
}

abbrev pub decreases-loop-low : goal.decreases-loop-low
decreases-loop-low g l = l.high - l.low
