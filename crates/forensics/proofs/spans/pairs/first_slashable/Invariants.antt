use Rattle.std.proofs.Common.{◌≡◌, [], take, drop}
use Rattle.forensics.specs.Pairs.{first_slashable}
use Rattle.forensics.proofs.spans.pairs.first_slashable.Given as goal

abbrev pub invariant-loop-i : goal.invariant-loop-i
invariant-loop-i l = first_slashable l.contents (take l.i l.votes) (drop l.i l.votes) ≡ first_slashable l.contents [] l.votes
