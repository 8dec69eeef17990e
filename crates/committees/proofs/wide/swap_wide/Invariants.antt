use Rattle.committees.specs.inside.Pass.{by_source, Passed}
use Rattle.committees.proofs.wide.swap_wide.Given as goal

abbrev pub invariant-loop-position : goal.invariant-loop-position
invariant-loop-position l = Passed (by_source l.source l.sum) l.sum l.first l.position l.fn.list l.list
