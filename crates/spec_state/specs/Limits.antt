-- The lengths and limits of a state's lists (beacon-chain.md, "BeaconState").
use Rattle.std.specs.Prelude.{◌≡◌, ◌≤◌, length}
use Rattle.bc_preset.specs.Presets.{IsPreset}
use Rattle.spec_state.specs.declared.plain.PlainState.{PlainState}
use Rattle.std.specs.List.{AllByRecursion}
use Rattle.ssz_codec.specs.Basic.{uint64, bytes32, bitvector}
use Rattle.beacon_types.specs.Containers.{fork_codec, checkpoint_codec, validator_codec, eth1_data_codec, block_header_codec, pending_attestation_codec}
use Rattle.spec_state.specs.States.{votes_limit, attestations_limit}

-- a state of one of the presets: each vector has its length, and no list is longer than its limit
pub record IsState (s : PlainState) : Type 0 where
  pub preset_is : IsPreset s.preset
  pub block_roots_len : length s.block_roots ≡ s.preset.slots_per_historical_root
  pub state_roots_len : length s.state_roots ≡ s.preset.slots_per_historical_root
  pub historical_roots_len : length s.historical_roots ≤ s.preset.historical_roots_limit
  pub eth1_data_votes_len : length s.eth1_data_votes ≤ votes_limit s.preset
  pub validators_len : length s.validators ≤ s.preset.validator_registry_limit
  pub balances_len : length s.balances ≤ s.preset.validator_registry_limit
  pub randao_mixes_len : length s.randao_mixes ≡ s.preset.epochs_per_historical_vector
  pub slashings_len : length s.slashings ≡ s.preset.epochs_per_slashings_vector
  pub previous_epoch_attestations_len : length s.previous_epoch_attestations ≤ attestations_limit s.preset
  pub current_epoch_attestations_len : length s.current_epoch_attestations ≤ attestations_limit s.preset

-- Each field is one that its codec has, but for the offsets that the writing of the state has.
pub record IsInRange (s : PlainState) : Type 0 where
  pub genesis_time : uint64.Within s.genesis_time
  pub genesis_validators_root : bytes32.Within s.genesis_validators_root
  pub slot : uint64.Within s.slot
  pub fork : fork_codec.Within s.fork
  pub latest_block_header : block_header_codec.Within s.latest_block_header
  pub block_roots : AllByRecursion bytes32.Within s.block_roots
  pub state_roots : AllByRecursion bytes32.Within s.state_roots
  pub historical_roots : AllByRecursion bytes32.Within s.historical_roots
  pub eth1_data : eth1_data_codec.Within s.eth1_data
  pub eth1_data_votes : AllByRecursion eth1_data_codec.Within s.eth1_data_votes
  pub eth1_deposit_index : uint64.Within s.eth1_deposit_index
  pub validators : AllByRecursion validator_codec.Within s.validators
  pub balances : AllByRecursion uint64.Within s.balances
  pub randao_mixes : AllByRecursion bytes32.Within s.randao_mixes
  pub slashings : AllByRecursion uint64.Within s.slashings
  pub previous_epoch_attestations : AllByRecursion pending_attestation_codec.Within s.previous_epoch_attestations
  pub current_epoch_attestations : AllByRecursion pending_attestation_codec.Within s.current_epoch_attestations
  pub justification_bits : (bitvector 4).Within s.justification_bits
  pub previous_justified_checkpoint : checkpoint_codec.Within s.previous_justified_checkpoint
  pub current_justified_checkpoint : checkpoint_codec.Within s.current_justified_checkpoint
  pub finalized_checkpoint : checkpoint_codec.Within s.finalized_checkpoint
