-- Slashable votes (beacon-chain.md, "is_slashable_attestation_data").
use Rattle.std.specs.Prelude.{Bool, ◌==◌, ◌&&◌, ◌||◌, not, nat_lt}
use Rattle.beacon_types.specs.declared.attestation_data.AttestationData.{AttestationData}
use Rattle.beacon_types.specs.Equality.{same_data}

-- a double vote: two votes for one target epoch; or a surround vote: the first begins before the second and ends behind it
unfoldable pub is_slashable_attestation_data : AttestationData → AttestationData → Bool
is_slashable_attestation_data data_1 data_2 =
    (not (same_data data_1 data_2) && (data_1.target.epoch == data_2.target.epoch))
    || (nat_lt data_1.source.epoch data_2.source.epoch && nat_lt data_2.target.epoch data_1.target.epoch)
