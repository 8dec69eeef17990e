-- The chunks written so far are the first two of the validators.
use Rattle.std.proofs.Common.{◌≡◌, ◌*◌, length, take}
use Rattle.std.specs.List.{flat_map}
use Rattle.beacon_types.specs.inside.ValidatorChunks.{owner_chunks}
use Rattle.beacon_types.proofs.validator_roots.write_owners.Given as goal

abbrev pub invariant-owners : goal.invariant-owners
invariant-owners l = record { room : length l.chunks ≡ 16; so_far : take (2 * l.i) l.chunks ≡ flat_map owner_chunks (take l.i l.validators) }
