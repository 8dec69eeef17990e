-- The chunks written so far are those of the members' epochs.
use Rattle.std.proofs.Common.{◌≡◌, ◌*◌, length, take}
use Rattle.std.specs.List.{flat_map}
use Rattle.validator_registry.proofs.MemberRoots.{chunks_of_member}
use Rattle.validator_registry.proofs.roots.write_epochs.Given as goal

abbrev pub invariant-epochs : goal.invariant-epochs
invariant-epochs l = record { room : length l.chunks ≡ 64; so_far : take (4 * l.i) l.chunks ≡ flat_map chunks_of_member (take l.i l.members) }
