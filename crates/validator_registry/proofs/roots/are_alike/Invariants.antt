-- The members so far are alike the other validator.
use Rattle.std.proofs.Common.{take}
use Rattle.std.specs.List.{All}
use Rattle.beacon_types.specs.inside.ValidatorChunks.{IsAlike}
use Rattle.validator_registry.specs.inside.Groups.{validators_of}
use Rattle.validator_registry.proofs.roots.are_alike.Given as goal

abbrev pub invariant-each : goal.invariant-each
invariant-each l = All (λ v. IsAlike v l.other) (take l.i (validators_of l.members l.balances))
