-- The members so far with their balances are the first validators.
use Rattle.std.proofs.Common.{◌≡◌, length, take}
use Rattle.validator_registry.specs.inside.Groups.{validators_of}
use Rattle.validator_registry.proofs.group.Group.of.Given as goal

abbrev pub invariant-members : goal.invariant-members
invariant-members l = record {
  count : length l.members.items ≡ l.k;
  room : length l.balances ≡ 16;
  so_far : validators_of l.members.items l.balances ≡ take l.k l.validators;
}
