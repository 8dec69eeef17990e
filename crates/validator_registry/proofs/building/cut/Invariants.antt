-- The groups so far have the first validators, and each has its place.
use Rattle.std.proofs.Common.{◌≡◌, ◌*◌, length, map, take}
use Rattle.validator_registry.specs.inside.Groups.{joined, AreGroups}
use Rattle.validator_registry.specs.inside.Places.{places}
use Rattle.validator_registry.proofs.building.cut.Given as goal

abbrev pub invariant-groups : goal.invariant-groups
invariant-groups l = record {
  placed : l.groups.items ≡ places 0 (map (λ group. group.1) l.groups.items);
  so_far : joined (map (λ group. group.1) l.groups.items) ≡ take (16 * l.k) l.validators;
  groups : AreGroups (map (λ group. group.1) l.groups.items);
  count : length (map (λ group. group.1) l.groups.items) ≡ l.k;
}
