use Rattle.ssz_codec.specs.Layout.{cut}
use Rattle.ssz_codec.specs.Basic.{bytes96}
use Rattle.ssz_codec.specs.Containers.{layout_of}
use Rattle.ssz_codec.proofs.Fieldwise.{three_read, three_unread}
use Rattle.beacon_types.specs.Containers.{aggregation_bits_codec, attestation_data_codec}
use Rattle.beacon_types.specs.Blocks.{attestation_fields}
use Rattle.beacon_types.proofs.attestation.AttestationSsz.parse.Goals as goal

-- the three fields are read
pub returns-in-Ok-read_container : goal.returns-in-Ok-read_container
returns-in-Ok-read_container c =
    three_read aggregation_bits_codec attestation_data_codec bytes96
    (λ bits content signature. record { aggregation_bits = bits; content = content; signature = signature })
    (cut (layout_of attestation_fields) c.args.bytes.now) _ _ _ c.in-Ok-read_container.ensures

-- one of them isn't
pub returns-in-Err-read_container : goal.returns-in-Err-read_container
returns-in-Err-read_container c =
    three_unread aggregation_bits_codec attestation_data_codec bytes96
    (λ bits content signature. record { aggregation_bits = bits; content = content; signature = signature })
    (cut (layout_of attestation_fields) c.args.bytes.now) _ c.in-Err-read_container.ensures
