use Rattle.std.proofs.Common.{[], ◌∷◌}
use Rattle.ssz_codec.specs.Layout.{cut}
use Rattle.ssz_codec.specs.declared.layout.Field.{Field}
use Rattle.ssz_codec.proofs.Fieldwise.{two_read, two_unread}
use Rattle.beacon_types.specs.Containers.{indexed_attestation_codec}
use Rattle.beacon_types.proofs.attester_slashing.AttesterSlashingSsz.parse.Goals as goal

-- two attestations are read
pub returns-in-Ok-read_container : goal.returns-in-Ok-read_container
returns-in-Ok-read_container c =
    two_read indexed_attestation_codec indexed_attestation_codec (λ a b. record { attestation_1 = a; attestation_2 = b })
    (cut (Field.Variable ∷ Field.Variable ∷ []) c.args.bytes.now) c.in-Ok-read_container.field-0.0 c.in-Ok-read_container.field-0.1.0 c.in-Ok-read_container.ensures

-- one of them isn't
pub returns-in-Err-read_container : goal.returns-in-Err-read_container
returns-in-Err-read_container c =
    two_unread indexed_attestation_codec indexed_attestation_codec (λ a b. record { attestation_1 = a; attestation_2 = b })
    (cut (Field.Variable ∷ Field.Variable ∷ []) c.args.bytes.now) c.in-Err-read_container.field-0 c.in-Err-read_container.ensures
