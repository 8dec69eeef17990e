-- The nodes written so far are those of the attestations.
use Rattle.std.proofs.Common.{◌≡◌, ◌*◌, length, take}
use Rattle.std.specs.List.{flat_map}
use Rattle.beacon_types.specs.inside.AttestationChunks.{fourth_nodes}
use Rattle.beacon_types.proofs.attestation_roots.write_fourth_roots.Given as goal

abbrev pub invariant-layer : goal.invariant-layer
invariant-layer l = record { room : length l.nodes ≡ 32; so_far : take (4 * l.i) l.nodes ≡ flat_map fourth_nodes (take l.i l.attestations) }
