use Rattle.std.proofs.Common.{take}
use Rattle.std.specs.List.{AllByRecursion}
use Rattle.beacon_types.specs.Containers.{validator_codec}
use Rattle.state_parts.proofs.validators.Validators.replace.Given as goal

abbrev pub invariant-loop-validator : goal.invariant-loop-validator
invariant-loop-validator l = AllByRecursion validator_codec.Within (take l.validator-index l.validator-items)
