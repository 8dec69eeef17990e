use Rattle.std.proofs.Common.{◌≡◌}
use Rattle.state_keeper.specs.inside.Entries.{ancestor_at}
use Rattle.state_keeper.proofs.remade.ancestor_at.Given as goal

-- the number is that of the block so many parents before
abbrev pub invariant-loop-step : goal.invariant-loop-step
invariant-loop-step g l = l.number ≡ ancestor_at l.entries l.n l.step
