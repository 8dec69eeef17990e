use Rattle.std.proofs.Common.{◌≡◌}
use Rattle.spec_forensics.specs.Steady.{is_steady_at}
use Rattle.forensics.specs.inside.SideBySide.{stay}
use Rattle.forensics.proofs.steady.is_steady.Given as goal

abbrev pub invariant-loop-validator : goal.invariant-loop-validator
invariant-loop-validator l = stay l.previous l.current l.owns l.validator-iterator ≡ is_steady_at l.genesis l.state
