-- The limit of a committee is low enough for trees. A proof, not a definition.
use Rattle.std.proofs.Common.{◌≤◌, ◌^◌, arith}
use Rattle.beacon_types.specs.Limits.{max_validators_per_committee}

pub max_members_low : max_validators_per_committee ≤ 2 ^ 40
max_members_low = omega arith
