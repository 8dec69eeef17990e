-- The chunks written so far are those of the keys, and the roots over them are the keys' roots.
use Rattle.std.proofs.Common.{◌≡◌, ◌*◌, length, take, map}
use Rattle.std.specs.List.{flat_map}
use Rattle.beacon_types.specs.inside.ValidatorChunks.{key_chunks, root_of_chunks, key_root}
use Rattle.validator_registry.proofs.owners.write_keys.Given as goal

abbrev pub invariant-keys : goal.invariant-keys
invariant-keys l = record {
  room : length l.chunks ≡ 32;
  so_far : take (2 * l.i) l.chunks ≡ flat_map key_chunks (take l.i l.validators);
  roots : map root_of_chunks (take l.i l.validators) ≡ map key_root (take l.i l.validators);
}
