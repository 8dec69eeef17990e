-- The containers of blocks, field by field in the order of the published specification (beacon-chain.md, "Beacon
-- operations" and "Beacon blocks").
use Rattle.std.specs.Prelude.{ℕ, List, [], replicate}
use Rattle.bc_preset.specs.Presets.{mainnet}
use Rattle.hash_tree.specs.Merkle.{zero_root}
use Rattle.ssz_codec.specs.Codec.{Codec}
use Rattle.ssz_codec.specs.Containers.{Fields, fields_of, ◌▹◌∶◌, container_of}
use Rattle.ssz_codec.specs.Basic.{uint64, bytes32, bytes96}
use Rattle.ssz_codec.specs.Lists.{list_codec}
use Rattle.beacon_types.specs.Containers.{eth1_data_codec, signed_header_codec, indexed_attestation_codec, aggregation_bits_codec, attestation_data_codec, deposit_codec, signed_exit_codec}
use Rattle.beacon_types.specs.declared.proposer_slashing.ProposerSlashing.{ProposerSlashing}
use Rattle.beacon_types.specs.declared.attester_slashing.AttesterSlashing.{AttesterSlashing}
use Rattle.beacon_types.specs.declared.attestation.Attestation.{Attestation}
use Rattle.beacon_types.specs.declared.body.BeaconBlockBody.{BeaconBlockBody}
use Rattle.beacon_types.specs.declared.block.BeaconBlock.{BeaconBlock}
use Rattle.beacon_types.specs.declared.signed_block.SignedBeaconBlock.{SignedBeaconBlock}

-- The limits of a body's lists ("Max operations per block"), which both presets share
abbrev pub max_proposer_slashings : ℕ
max_proposer_slashings = mainnet.max_proposer_slashings

abbrev pub max_attester_slashings : ℕ
max_attester_slashings = mainnet.max_attester_slashings

abbrev pub max_attestations : ℕ
max_attestations = mainnet.max_attestations

abbrev pub max_deposits : ℕ
max_deposits = mainnet.max_deposits

abbrev pub max_voluntary_exits : ℕ
max_voluntary_exits = mainnet.max_voluntary_exits

-- ProposerSlashing
abbrev pub proposer_slashing_fields : Fields ProposerSlashing ProposerSlashing
proposer_slashing_fields = fields_of (λ first second. record {
  signed_header_1 = first;
  signed_header_2 = second;
})
    ▹ (λ v. v.signed_header_1) ∶ signed_header_codec
    ▹ (λ v. v.signed_header_2) ∶ signed_header_codec

abbrev pub proposer_slashing_codec : Codec ProposerSlashing
proposer_slashing_codec = container_of proposer_slashing_fields

-- AttesterSlashing
abbrev pub attester_slashing_fields : Fields AttesterSlashing AttesterSlashing
attester_slashing_fields = fields_of (λ first second. record {
  attestation_1 = first;
  attestation_2 = second;
})
    ▹ (λ v. v.attestation_1) ∶ indexed_attestation_codec
    ▹ (λ v. v.attestation_2) ∶ indexed_attestation_codec

abbrev pub attester_slashing_codec : Codec AttesterSlashing
attester_slashing_codec = container_of attester_slashing_fields

-- Attestation; the published field data is called content
abbrev pub attestation_fields : Fields Attestation Attestation
attestation_fields = fields_of (λ bits content signature. record {
  aggregation_bits = bits;
  content = content;
  signature = signature;
})
    ▹ (λ v. v.aggregation_bits) ∶ aggregation_bits_codec
    ▹ (λ v. v.content) ∶ attestation_data_codec
    ▹ (λ v. v.signature) ∶ bytes96

abbrev pub attestation_codec : Codec Attestation
attestation_codec = container_of attestation_fields

-- BeaconBlockBody
abbrev pub block_body_fields : Fields BeaconBlockBody BeaconBlockBody
block_body_fields = fields_of (λ randao eth1 graffiti proposer_slashings attester_slashings attestations deposits exits. record {
  randao_reveal = randao;
  eth1_data = eth1;
  graffiti = graffiti;
  proposer_slashings = proposer_slashings;
  attester_slashings = attester_slashings;
  attestations = attestations;
  deposits = deposits;
  voluntary_exits = exits;
})
    ▹ (λ v. v.randao_reveal) ∶ bytes96
    ▹ (λ v. v.eth1_data) ∶ eth1_data_codec
    ▹ (λ v. v.graffiti) ∶ bytes32
    ▹ (λ v. v.proposer_slashings) ∶ list_codec proposer_slashing_codec max_proposer_slashings
    ▹ (λ v. v.attester_slashings) ∶ list_codec attester_slashing_codec max_attester_slashings
    ▹ (λ v. v.attestations) ∶ list_codec attestation_codec max_attestations
    ▹ (λ v. v.deposits) ∶ list_codec deposit_codec max_deposits
    ▹ (λ v. v.voluntary_exits) ∶ list_codec signed_exit_codec max_voluntary_exits

abbrev pub block_body_codec : Codec BeaconBlockBody
block_body_codec = container_of block_body_fields

-- BeaconBlock
abbrev pub block_fields : Fields BeaconBlock BeaconBlock
block_fields = fields_of (λ slot proposer parent state body. record {
  slot = slot;
  proposer_index = proposer;
  parent_root = parent;
  state_root = state;
  body = body;
})
    ▹ (λ v. v.slot) ∶ uint64
    ▹ (λ v. v.proposer_index) ∶ uint64
    ▹ (λ v. v.parent_root) ∶ bytes32
    ▹ (λ v. v.state_root) ∶ bytes32
    ▹ (λ v. v.body) ∶ block_body_codec

abbrev pub block_codec : Codec BeaconBlock
block_codec = container_of block_fields

-- SignedBeaconBlock
abbrev pub signed_block_fields : Fields SignedBeaconBlock SignedBeaconBlock
signed_block_fields = fields_of (λ message signature. record {
  message = message;
  signature = signature;
})
    ▹ (λ v. v.message) ∶ block_codec
    ▹ (λ v. v.signature) ∶ bytes96

abbrev pub signed_block_codec : Codec SignedBeaconBlock
signed_block_codec = container_of signed_block_fields

-- the default BeaconBlockBody: each field is zero, each list is empty
abbrev pub default_block_body : BeaconBlockBody
default_block_body = record {
  randao_reveal = replicate 96 0;
  eth1_data = record { deposit_root = zero_root; deposit_count = 0; block_hash = zero_root };
  graffiti = zero_root;
  proposer_slashings = [];
  attester_slashings = [];
  attestations = [];
  deposits = [];
  voluntary_exits = [];
}

-- its root, which the genesis block has ("Genesis block")
unfoldable pub empty_body_root : List ℕ
empty_body_root = block_body_codec.hash_tree_root default_block_body
