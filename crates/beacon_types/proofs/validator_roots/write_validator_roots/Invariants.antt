-- The roots written so far are the validators'.
use Rattle.std.proofs.Common.{◌≡◌, ◌*◌, length, take, map}
use Rattle.beacon_types.specs.Containers.{validator_codec}
use Rattle.beacon_types.proofs.validator_roots.write_validator_roots.Given as goal

abbrev pub invariant-eights : goal.invariant-eights
invariant-eights l = record { room : length l.out ≡ length l.validators; so_far : take (8 * l.i) l.out ≡ map validator_codec.hash_tree_root (take (8 * l.i) l.validators) }

abbrev pub invariant-rest : goal.invariant-rest
invariant-rest l = record { room : length l.out ≡ length l.validators; so_far : take l.i l.out ≡ map validator_codec.hash_tree_root (take l.i l.validators) }
