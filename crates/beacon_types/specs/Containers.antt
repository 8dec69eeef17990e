-- The small containers of states and blocks, field by field in the order of the published specification (beacon-chain.md,
-- "Containers").
use Rattle.std.specs.Prelude.{ℕ, ◌+◌, List, Bool}
use Rattle.ssz_codec.specs.Codec.{Codec}
use Rattle.ssz_codec.specs.Containers.{Fields, fields_of, ◌▹◌∶◌, container_of}
use Rattle.ssz_codec.specs.Basic.{uint64, boolean, bytes4, bytes32, bytes48, bytes96}
use Rattle.ssz_codec.specs.BitLists.{bitlist}
use Rattle.ssz_codec.specs.Lists.{list_codec, vector_codec}
use Rattle.beacon_types.specs.Limits.{max_validators_per_committee}
use Rattle.beacon_types.specs.declared.pending_attestation.PendingAttestation.{PendingAttestation}
use Rattle.beacon_types.specs.declared.fork.Fork.{Fork}
use Rattle.beacon_types.specs.declared.checkpoint.Checkpoint.{Checkpoint}
use Rattle.beacon_types.specs.declared.validator.Validator.{Validator}
use Rattle.beacon_types.specs.declared.attestation_data.AttestationData.{AttestationData}
use Rattle.beacon_types.specs.declared.eth1_data.Eth1Data.{Eth1Data}
use Rattle.beacon_types.specs.declared.block_header.BeaconBlockHeader.{BeaconBlockHeader}
use Rattle.beacon_types.specs.declared.voluntary_exit.VoluntaryExit.{VoluntaryExit}
use Rattle.beacon_types.specs.declared.deposit_data.DepositData.{DepositData}
use Rattle.beacon_types.specs.declared.indexed_attestation.IndexedAttestation.{IndexedAttestation}
use Rattle.beacon_types.specs.declared.deposit.Deposit.{Deposit}
use Rattle.beacon_types.specs.declared.signed_header.SignedBeaconBlockHeader.{SignedBeaconBlockHeader}
use Rattle.beacon_types.specs.declared.signed_exit.SignedVoluntaryExit.{SignedVoluntaryExit}

-- Fork
abbrev pub fork_fields : Fields Fork Fork
fork_fields = fields_of (λ previous current epoch. record {
  previous_version = previous;
  current_version = current;
  epoch = epoch;
})
    ▹ (λ v. v.previous_version) ∶ bytes4
    ▹ (λ v. v.current_version) ∶ bytes4
    ▹ (λ v. v.epoch) ∶ uint64

abbrev pub fork_codec : Codec Fork
fork_codec = container_of fork_fields

-- Checkpoint
abbrev pub checkpoint_fields : Fields Checkpoint Checkpoint
checkpoint_fields = fields_of (λ epoch root. record {
  epoch = epoch;
  root = root;
})
    ▹ (λ v. v.epoch) ∶ uint64
    ▹ (λ v. v.root) ∶ bytes32

abbrev pub checkpoint_codec : Codec Checkpoint
checkpoint_codec = container_of checkpoint_fields

-- Validator
abbrev pub validator_fields : Fields Validator Validator
validator_fields = fields_of (λ pubkey credentials balance slashed eligibility activation exit withdrawable. record {
  pubkey = pubkey;
  withdrawal_credentials = credentials;
  effective_balance = balance;
  slashed = slashed;
  activation_eligibility_epoch = eligibility;
  activation_epoch = activation;
  exit_epoch = exit;
  withdrawable_epoch = withdrawable;
})
    ▹ (λ v. v.pubkey) ∶ bytes48
    ▹ (λ v. v.withdrawal_credentials) ∶ bytes32
    ▹ (λ v. v.effective_balance) ∶ uint64
    ▹ (λ v. v.slashed) ∶ boolean
    ▹ (λ v. v.activation_eligibility_epoch) ∶ uint64
    ▹ (λ v. v.activation_epoch) ∶ uint64
    ▹ (λ v. v.exit_epoch) ∶ uint64
    ▹ (λ v. v.withdrawable_epoch) ∶ uint64

abbrev pub validator_codec : Codec Validator
validator_codec = container_of validator_fields

-- AttestationData
abbrev pub attestation_data_fields : Fields AttestationData AttestationData
attestation_data_fields = fields_of (λ slot index block source target. record {
  slot = slot;
  index = index;
  beacon_block_root = block;
  source = source;
  target = target;
})
    ▹ (λ v. v.slot) ∶ uint64
    ▹ (λ v. v.index) ∶ uint64
    ▹ (λ v. v.beacon_block_root) ∶ bytes32
    ▹ (λ v. v.source) ∶ checkpoint_codec
    ▹ (λ v. v.target) ∶ checkpoint_codec

abbrev pub attestation_data_codec : Codec AttestationData
attestation_data_codec = container_of attestation_data_fields

-- Eth1Data
abbrev pub eth1_data_fields : Fields Eth1Data Eth1Data
eth1_data_fields = fields_of (λ root count hash. record {
  deposit_root = root;
  deposit_count = count;
  block_hash = hash;
})
    ▹ (λ v. v.deposit_root) ∶ bytes32
    ▹ (λ v. v.deposit_count) ∶ uint64
    ▹ (λ v. v.block_hash) ∶ bytes32

abbrev pub eth1_data_codec : Codec Eth1Data
eth1_data_codec = container_of eth1_data_fields

-- BeaconBlockHeader
abbrev pub block_header_fields : Fields BeaconBlockHeader BeaconBlockHeader
block_header_fields = fields_of (λ slot proposer parent state body. record {
  slot = slot;
  proposer_index = proposer;
  parent_root = parent;
  state_root = state;
  body_root = body;
})
    ▹ (λ v. v.slot) ∶ uint64
    ▹ (λ v. v.proposer_index) ∶ uint64
    ▹ (λ v. v.parent_root) ∶ bytes32
    ▹ (λ v. v.state_root) ∶ bytes32
    ▹ (λ v. v.body_root) ∶ bytes32

abbrev pub block_header_codec : Codec BeaconBlockHeader
block_header_codec = container_of block_header_fields

-- VoluntaryExit
abbrev pub voluntary_exit_fields : Fields VoluntaryExit VoluntaryExit
voluntary_exit_fields = fields_of (λ epoch validator. record {
  epoch = epoch;
  validator_index = validator;
})
    ▹ (λ v. v.epoch) ∶ uint64
    ▹ (λ v. v.validator_index) ∶ uint64

abbrev pub voluntary_exit_codec : Codec VoluntaryExit
voluntary_exit_codec = container_of voluntary_exit_fields

-- Bitlist[MAX_VALIDATORS_PER_COMMITTEE]
abbrev pub aggregation_bits_codec : Codec (List Bool)
aggregation_bits_codec = bitlist max_validators_per_committee

-- PendingAttestation; the published field data is called content
abbrev pub pending_attestation_fields : Fields PendingAttestation PendingAttestation
pending_attestation_fields = fields_of (λ bits content delay proposer. record {
  aggregation_bits = bits;
  content = content;
  inclusion_delay = delay;
  proposer_index = proposer;
})
    ▹ (λ v. v.aggregation_bits) ∶ aggregation_bits_codec
    ▹ (λ v. v.content) ∶ attestation_data_codec
    ▹ (λ v. v.inclusion_delay) ∶ uint64
    ▹ (λ v. v.proposer_index) ∶ uint64

abbrev pub pending_attestation_codec : Codec PendingAttestation
pending_attestation_codec = container_of pending_attestation_fields

-- DepositData
abbrev pub deposit_data_fields : Fields DepositData DepositData
deposit_data_fields = fields_of (λ pubkey withdrawal_credentials amount signature. record {
  pubkey = pubkey;
  withdrawal_credentials = withdrawal_credentials;
  amount = amount;
  signature = signature;
})
    ▹ (λ v. v.pubkey) ∶ bytes48
    ▹ (λ v. v.withdrawal_credentials) ∶ bytes32
    ▹ (λ v. v.amount) ∶ uint64
    ▹ (λ v. v.signature) ∶ bytes96

abbrev pub deposit_data_codec : Codec DepositData
deposit_data_codec = container_of deposit_data_fields

-- IndexedAttestation; the published field data is called content
abbrev pub indexed_attestation_fields : Fields IndexedAttestation IndexedAttestation
indexed_attestation_fields = fields_of (λ indices content signature. record {
  attesting_indices = indices;
  content = content;
  signature = signature;
})
    ▹ (λ v. v.attesting_indices) ∶ list_codec uint64 max_validators_per_committee
    ▹ (λ v. v.content) ∶ attestation_data_codec
    ▹ (λ v. v.signature) ∶ bytes96

abbrev pub indexed_attestation_codec : Codec IndexedAttestation
indexed_attestation_codec = container_of indexed_attestation_fields

-- DEPOSIT_CONTRACT_TREE_DEPTH
abbrev pub deposit_contract_tree_depth : ℕ
deposit_contract_tree_depth = 32

-- Deposit; the published field data is called content
abbrev pub deposit_fields : Fields Deposit Deposit
deposit_fields = fields_of (λ proof content. record {
  proof = proof;
  content = content;
})
    ▹ (λ v. v.proof) ∶ vector_codec bytes32 (deposit_contract_tree_depth + 1)
    ▹ (λ v. v.content) ∶ deposit_data_codec

abbrev pub deposit_codec : Codec Deposit
deposit_codec = container_of deposit_fields

-- SignedBeaconBlockHeader
abbrev pub signed_header_fields : Fields SignedBeaconBlockHeader SignedBeaconBlockHeader
signed_header_fields = fields_of (λ message signature. record {
  message = message;
  signature = signature;
})
    ▹ (λ v. v.message) ∶ block_header_codec
    ▹ (λ v. v.signature) ∶ bytes96

abbrev pub signed_header_codec : Codec SignedBeaconBlockHeader
signed_header_codec = container_of signed_header_fields

-- SignedVoluntaryExit
abbrev pub signed_exit_fields : Fields SignedVoluntaryExit SignedVoluntaryExit
signed_exit_fields = fields_of (λ message signature. record {
  message = message;
  signature = signature;
})
    ▹ (λ v. v.message) ∶ voluntary_exit_codec
    ▹ (λ v. v.signature) ∶ bytes96

abbrev pub signed_exit_codec : Codec SignedVoluntaryExit
signed_exit_codec = container_of signed_exit_fields
