use Rattle.ssz_codec.specs.Layout.{cut}
use Rattle.ssz_codec.specs.Basic.{uint64, bytes96}
use Rattle.ssz_codec.specs.Lists.{list_codec}
use Rattle.ssz_codec.specs.Containers.{layout_of}
use Rattle.ssz_codec.proofs.Fieldwise.{three_read, three_unread}
use Rattle.beacon_types.specs.Limits.{max_validators_per_committee}
use Rattle.beacon_types.specs.Containers.{indexed_attestation_fields, attestation_data_codec}
use Rattle.beacon_types.proofs.indexed_attestation.IndexedAttestationSsz.parse.Goals as goal

-- the three fields are read
pub returns-in-Ok-read_container : goal.returns-in-Ok-read_container
returns-in-Ok-read_container c =
    three_read (list_codec uint64 max_validators_per_committee) attestation_data_codec bytes96
    (λ indices content signature. record { attesting_indices = indices; content = content; signature = signature })
    (cut (layout_of indexed_attestation_fields) c.args.bytes.now) _ _ _ c.in-Ok-read_container.ensures

-- one of them isn't
pub returns-in-Err-read_container : goal.returns-in-Err-read_container
returns-in-Err-read_container c =
    three_unread (list_codec uint64 max_validators_per_committee) attestation_data_codec bytes96
    (λ indices content signature. record { attesting_indices = indices; content = content; signature = signature })
    (cut (layout_of indexed_attestation_fields) c.args.bytes.now) _ c.in-Err-read_container.ensures
