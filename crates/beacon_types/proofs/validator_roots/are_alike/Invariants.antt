-- The validators so far are alike the first.
use Rattle.std.proofs.Common.{take}
use Rattle.std.specs.List.{All}
use Rattle.beacon_types.specs.inside.ValidatorChunks.{IsAlike}
use Rattle.beacon_types.proofs.validator_roots.are_alike.Given as goal

abbrev pub invariant-each : goal.invariant-each
invariant-each l = All (λ v. IsAlike v l.first) (take l.i l.validators)
