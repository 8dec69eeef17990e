-- The nodes written so far are those of the attestations.
use Rattle.std.proofs.Common.{◌≡◌, ◌*◌, length, take}
use Rattle.std.specs.List.{flat_map}
use Rattle.beacon_types.specs.inside.AttestationChunks.{field_chunks}
use Rattle.beacon_types.proofs.attestation_roots.write_halves.Given as goal

abbrev pub invariant-layer : goal.invariant-layer
invariant-layer l = record { room : length l.nodes ≡ 32; so_far : take (4 * l.i) l.nodes ≡ flat_map field_chunks (take l.i l.attestations) }
