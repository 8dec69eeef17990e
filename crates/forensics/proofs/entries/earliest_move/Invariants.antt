use Rattle.std.proofs.Common.{◌≡◌, reverse, None}
use Rattle.forensics.specs.inside.Entries.{earliest}
use Rattle.forensics.proofs.Chained.{back}
use Rattle.forensics.proofs.entries.earliest_move.Given as goal

abbrev pub invariant-loop-i : goal.invariant-loop-i
invariant-loop-i l = earliest (back l.i l.entries) l.root l.found ≡ earliest (reverse l.entries) l.fn.block None
