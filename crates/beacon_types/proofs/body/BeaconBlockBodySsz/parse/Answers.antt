use Rattle.ssz_codec.specs.Layout.{cut}
use Rattle.ssz_codec.specs.Basic.{bytes32, bytes96}
use Rattle.ssz_codec.specs.Lists.{list_codec}
use Rattle.ssz_codec.specs.Containers.{layout_of}
use Rattle.ssz_codec.proofs.Fieldwise.{eight_read, eight_unread}
use Rattle.beacon_types.specs.Containers.{eth1_data_codec, deposit_codec, signed_exit_codec}
use Rattle.beacon_types.specs.Blocks.{block_body_fields, proposer_slashing_codec, attester_slashing_codec, attestation_codec, max_proposer_slashings, max_attester_slashings, max_attestations, max_deposits, max_voluntary_exits}
use Rattle.beacon_types.proofs.body.BeaconBlockBodySsz.parse.Goals as goal

-- the eight fields are read
pub returns-in-Ok-read_container : goal.returns-in-Ok-read_container
returns-in-Ok-read_container c =
    eight_read bytes96 eth1_data_codec bytes32 (list_codec proposer_slashing_codec max_proposer_slashings)
    (list_codec attester_slashing_codec max_attester_slashings) (list_codec attestation_codec max_attestations)
    (list_codec deposit_codec max_deposits) (list_codec signed_exit_codec max_voluntary_exits)
    (λ randao eth1 graffiti proposer_slashings attester_slashings attestations deposits exits. record { randao_reveal = randao; eth1_data = eth1; graffiti = graffiti; proposer_slashings = proposer_slashings; attester_slashings = attester_slashings; attestations = attestations; deposits = deposits; voluntary_exits = exits })
    (cut (layout_of block_body_fields) c.args.bytes.now) _ _ _ _ _ _ _ _ c.in-Ok-read_container.ensures

-- or a fault ends them
pub returns-in-Err-read_container : goal.returns-in-Err-read_container
returns-in-Err-read_container c =
    eight_unread bytes96 eth1_data_codec bytes32 (list_codec proposer_slashing_codec max_proposer_slashings)
    (list_codec attester_slashing_codec max_attester_slashings) (list_codec attestation_codec max_attestations)
    (list_codec deposit_codec max_deposits) (list_codec signed_exit_codec max_voluntary_exits)
    (λ randao eth1 graffiti proposer_slashings attester_slashings attestations deposits exits. record { randao_reveal = randao; eth1_data = eth1; graffiti = graffiti; proposer_slashings = proposer_slashings; attester_slashings = attester_slashings; attestations = attestations; deposits = deposits; voluntary_exits = exits })
    (cut (layout_of block_body_fields) c.args.bytes.now) _ c.in-Err-read_container.ensures
