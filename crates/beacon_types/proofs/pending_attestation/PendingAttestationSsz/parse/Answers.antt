use Rattle.ssz_codec.specs.Layout.{cut}
use Rattle.ssz_codec.specs.Basic.{uint64}
use Rattle.ssz_codec.specs.Containers.{layout_of}
use Rattle.ssz_codec.proofs.Fieldwise.{four_read, four_unread}
use Rattle.beacon_types.specs.Containers.{pending_attestation_fields, aggregation_bits_codec, attestation_data_codec}
use Rattle.beacon_types.proofs.pending_attestation.PendingAttestationSsz.parse.Goals as goal

-- the four fields are read
pub returns-in-Ok-read_container : goal.returns-in-Ok-read_container
returns-in-Ok-read_container c =
    four_read aggregation_bits_codec attestation_data_codec uint64 uint64
    (λ bits content delay proposer. record { aggregation_bits = bits; content = content; inclusion_delay = delay; proposer_index = proposer })
    (cut (layout_of pending_attestation_fields) c.args.bytes.now) _ _ _ _ c.in-Ok-read_container.ensures

-- one of them isn't
pub returns-in-Err-read_container : goal.returns-in-Err-read_container
returns-in-Err-read_container c =
    four_unread aggregation_bits_codec attestation_data_codec uint64 uint64
    (λ bits content delay proposer. record { aggregation_bits = bits; content = content; inclusion_delay = delay; proposer_index = proposer })
    (cut (layout_of pending_attestation_fields) c.args.bytes.now) _ c.in-Err-read_container.ensures
