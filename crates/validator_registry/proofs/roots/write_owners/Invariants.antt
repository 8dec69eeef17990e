-- The roots written so far are the members'.
use Rattle.std.proofs.Common.{◌≡◌, length, take, map}
use Rattle.beacon_types.specs.inside.ValidatorChunks.{owner_root}
use Rattle.validator_registry.proofs.roots.write_owners.Given as goal

abbrev pub invariant-owners : goal.invariant-owners
invariant-owners l = record {
  room : length l.out ≡ length l.members;
  so_far : take l.i l.out ≡ map (λ member. owner_root member.validator) (take l.i l.members);
}
