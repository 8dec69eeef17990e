use Rattle.ssz_codec.specs.Layout.{cut}
use Rattle.ssz_codec.specs.Basic.{uint64, bytes32}
use Rattle.ssz_codec.specs.Containers.{layout_of}
use Rattle.ssz_codec.proofs.Fieldwise.{five_read, five_unread}
use Rattle.beacon_types.specs.Containers.{attestation_data_fields, checkpoint_codec}
use Rattle.beacon_types.proofs.attestation_data.AttestationDataSsz.parse.Goals as goal

-- the five fields are read
pub returns-in-Ok-read_container : goal.returns-in-Ok-read_container
returns-in-Ok-read_container c =
    five_read uint64 uint64 bytes32 checkpoint_codec checkpoint_codec
    (λ slot index block source target. record { slot = slot; index = index; beacon_block_root = block; source = source; target = target })
    (cut (layout_of attestation_data_fields) c.args.bytes.now) _ _ _ _ _ c.in-Ok-read_container.ensures

-- one of them isn't
pub returns-in-Err-read_container : goal.returns-in-Err-read_container
returns-in-Err-read_container c =
    five_unread uint64 uint64 bytes32 checkpoint_codec checkpoint_codec
    (λ slot index block source target. record { slot = slot; index = index; beacon_block_root = block; source = source; target = target })
    (cut (layout_of attestation_data_fields) c.args.bytes.now) _ c.in-Err-read_container.ensures
