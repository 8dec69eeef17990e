-- The roots written so far are the groups'.
use Rattle.std.proofs.Common.{◌≡◌, length, take, map}
use Rattle.validator_registry.specs.inside.Groups.{group_root}
use Rattle.validator_registry.proofs.group.GroupLeaf.write_roots.Given as goal

abbrev pub invariant-groups : goal.invariant-groups
invariant-groups l = record { room : length l.out ≡ length l.groups; so_far : take l.i l.out ≡ map group_root (take l.i l.groups) }
