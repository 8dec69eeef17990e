-- The state of a preset, field by field in the order of the published specification (beacon-chain.md, "BeaconState").
use Rattle.std.specs.Prelude.{ℕ, ◌*◌}
use Rattle.ssz_codec.specs.Codec.{Codec}
use Rattle.ssz_codec.specs.Containers.{Fields, fields_of, ◌▹◌∶◌, ◌▹◌≔◌, container_of}
use Rattle.ssz_codec.specs.Basic.{uint64, bytes32, bitvector}
use Rattle.ssz_codec.specs.Lists.{vector_codec, list_codec}
use Rattle.bc_preset.specs.declared.presets.Preset.{Preset}
use Rattle.beacon_types.specs.Containers.{fork_codec, checkpoint_codec, validator_codec, eth1_data_codec, block_header_codec, pending_attestation_codec}
use Rattle.spec_state.specs.declared.plain.PlainState.{PlainState}

-- limits of the lists of votes and of pending attestations
abbrev pub votes_limit : Preset → ℕ
votes_limit p = p.epochs_per_eth1_voting_period * p.slots_per_epoch

abbrev pub attestations_limit : Preset → ℕ
attestations_limit p = p.max_attestations * p.slots_per_epoch

-- BeaconState: the preset stands beside its 21 fields, and isn't part of the writing
unfoldable pub state_fields : Preset → Fields PlainState PlainState
state_fields p =
    fields_of (λ preset.
    λ genesis_time genesis_validators_root slot fork.
    λ latest_block_header block_roots state_roots historical_roots.
    λ eth1_data eth1_data_votes eth1_deposit_index.
    λ validators balances randao_mixes slashings.
    λ previous_epoch_attestations current_epoch_attestations.
    λ justification_bits previous_justified_checkpoint current_justified_checkpoint finalized_checkpoint. record {
      preset = preset;
      genesis_time = genesis_time;
      genesis_validators_root = genesis_validators_root;
      slot = slot;
      fork = fork;
      latest_block_header = latest_block_header;
      block_roots = block_roots;
      state_roots = state_roots;
      historical_roots = historical_roots;
      eth1_data = eth1_data;
      eth1_data_votes = eth1_data_votes;
      eth1_deposit_index = eth1_deposit_index;
      validators = validators;
      balances = balances;
      randao_mixes = randao_mixes;
      slashings = slashings;
      previous_epoch_attestations = previous_epoch_attestations;
      current_epoch_attestations = current_epoch_attestations;
      justification_bits = justification_bits;
      previous_justified_checkpoint = previous_justified_checkpoint;
      current_justified_checkpoint = current_justified_checkpoint;
      finalized_checkpoint = finalized_checkpoint;
    })
    ▹ (λ s. s.preset) ≔ p
    ▹ (λ s. s.genesis_time) ∶ uint64
    ▹ (λ s. s.genesis_validators_root) ∶ bytes32
    ▹ (λ s. s.slot) ∶ uint64
    ▹ (λ s. s.fork) ∶ fork_codec
    ▹ (λ s. s.latest_block_header) ∶ block_header_codec
    ▹ (λ s. s.block_roots) ∶ vector_codec bytes32 p.slots_per_historical_root
    ▹ (λ s. s.state_roots) ∶ vector_codec bytes32 p.slots_per_historical_root
    ▹ (λ s. s.historical_roots) ∶ list_codec bytes32 p.historical_roots_limit
    ▹ (λ s. s.eth1_data) ∶ eth1_data_codec
    ▹ (λ s. s.eth1_data_votes) ∶ list_codec eth1_data_codec (votes_limit p)
    ▹ (λ s. s.eth1_deposit_index) ∶ uint64
    ▹ (λ s. s.validators) ∶ list_codec validator_codec p.validator_registry_limit
    ▹ (λ s. s.balances) ∶ list_codec uint64 p.validator_registry_limit
    ▹ (λ s. s.randao_mixes) ∶ vector_codec bytes32 p.epochs_per_historical_vector
    ▹ (λ s. s.slashings) ∶ vector_codec uint64 p.epochs_per_slashings_vector
    ▹ (λ s. s.previous_epoch_attestations) ∶ list_codec pending_attestation_codec (attestations_limit p)
    ▹ (λ s. s.current_epoch_attestations) ∶ list_codec pending_attestation_codec (attestations_limit p)
    ▹ (λ s. s.justification_bits) ∶ bitvector 4
    ▹ (λ s. s.previous_justified_checkpoint) ∶ checkpoint_codec
    ▹ (λ s. s.current_justified_checkpoint) ∶ checkpoint_codec
    ▹ (λ s. s.finalized_checkpoint) ∶ checkpoint_codec

unfoldable pub state_codec : Preset → Codec PlainState
state_codec p = container_of (state_fields p)
