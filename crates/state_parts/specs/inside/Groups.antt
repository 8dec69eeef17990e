-- The fields of a state in six groups of neighbours: reading takes a group at a time, since one function for all 21
-- would not be proved. Not a definition of the format.
use Rattle.std.specs.Prelude.{ℕ, List, Option, Some}
use Rattle.ssz_codec.specs.Layout.{◌and_then◌}
use Rattle.ssz_codec.specs.Containers.{Fields, fields_of, ◌▹◌∶◌, all_read}
use Rattle.ssz_codec.specs.Basic.{uint64, bytes32, bitvector}
use Rattle.ssz_codec.specs.Lists.{vector_codec, list_codec}
use Rattle.bc_preset.specs.declared.presets.Preset.{Preset}
use Rattle.beacon_types.specs.Containers.{fork_codec, checkpoint_codec, validator_codec, eth1_data_codec, block_header_codec, pending_attestation_codec}
use Rattle.spec_state.specs.declared.plain.PlainState.{PlainState}
use Rattle.spec_state.specs.States.{votes_limit, attestations_limit}
use Rattle.state_parts.specs.declared.parts.Clock.{Clock}
use Rattle.state_parts.specs.declared.parts.History.{History}
use Rattle.state_parts.specs.declared.parts.Eth1.{Eth1}
use Rattle.state_parts.specs.declared.parts.Registry.{Registry}
use Rattle.state_parts.specs.declared.parts.Pending.{Pending}
use Rattle.state_parts.specs.declared.parts.Finality.{Finality}

unfoldable pub clock_fields : Fields Clock Clock
clock_fields = fields_of (λ genesis_time genesis_validators_root slot fork latest_block_header. record {
  genesis_time = genesis_time;
  genesis_validators_root = genesis_validators_root;
  slot = slot;
  fork = fork;
  latest_block_header = latest_block_header;
})
    ▹ (λ v. v.genesis_time) ∶ uint64
    ▹ (λ v. v.genesis_validators_root) ∶ bytes32
    ▹ (λ v. v.slot) ∶ uint64
    ▹ (λ v. v.fork) ∶ fork_codec
    ▹ (λ v. v.latest_block_header) ∶ block_header_codec

unfoldable pub history_fields : Preset → Fields History History
history_fields p = fields_of (λ block_roots state_roots historical_roots. record {
  block_roots = block_roots;
  state_roots = state_roots;
  historical_roots = historical_roots;
})
    ▹ (λ v. v.block_roots) ∶ vector_codec bytes32 p.slots_per_historical_root
    ▹ (λ v. v.state_roots) ∶ vector_codec bytes32 p.slots_per_historical_root
    ▹ (λ v. v.historical_roots) ∶ list_codec bytes32 p.historical_roots_limit

unfoldable pub eth1_fields : Preset → Fields Eth1 Eth1
eth1_fields p = fields_of (λ eth1_data eth1_data_votes eth1_deposit_index. record {
  eth1_data = eth1_data;
  eth1_data_votes = eth1_data_votes;
  eth1_deposit_index = eth1_deposit_index;
})
    ▹ (λ v. v.eth1_data) ∶ eth1_data_codec
    ▹ (λ v. v.eth1_data_votes) ∶ list_codec eth1_data_codec (votes_limit p)
    ▹ (λ v. v.eth1_deposit_index) ∶ uint64

unfoldable pub registry_fields : Preset → Fields Registry Registry
registry_fields p = fields_of (λ validators balances randao_mixes slashings. record {
  validators = validators;
  balances = balances;
  randao_mixes = randao_mixes;
  slashings = slashings;
})
    ▹ (λ v. v.validators) ∶ list_codec validator_codec p.validator_registry_limit
    ▹ (λ v. v.balances) ∶ list_codec uint64 p.validator_registry_limit
    ▹ (λ v. v.randao_mixes) ∶ vector_codec bytes32 p.epochs_per_historical_vector
    ▹ (λ v. v.slashings) ∶ vector_codec uint64 p.epochs_per_slashings_vector

unfoldable pub pending_fields : Preset → Fields Pending Pending
pending_fields p = fields_of (λ previous_epoch_attestations current_epoch_attestations. record {
  previous_epoch_attestations = previous_epoch_attestations;
  current_epoch_attestations = current_epoch_attestations;
})
    ▹ (λ v. v.previous_epoch_attestations) ∶ list_codec pending_attestation_codec (attestations_limit p)
    ▹ (λ v. v.current_epoch_attestations) ∶ list_codec pending_attestation_codec (attestations_limit p)

unfoldable pub finality_fields : Fields Finality Finality
finality_fields = fields_of (λ justification_bits previous_justified_checkpoint current_justified_checkpoint finalized_checkpoint. record {
  justification_bits = justification_bits;
  previous_justified_checkpoint = previous_justified_checkpoint;
  current_justified_checkpoint = current_justified_checkpoint;
  finalized_checkpoint = finalized_checkpoint;
})
    ▹ (λ v. v.justification_bits) ∶ bitvector 4
    ▹ (λ v. v.previous_justified_checkpoint) ∶ checkpoint_codec
    ▹ (λ v. v.current_justified_checkpoint) ∶ checkpoint_codec
    ▹ (λ v. v.finalized_checkpoint) ∶ checkpoint_codec

-- the state of the groups
abbrev pub state_of : Preset → Clock → History → Eth1 → Registry → Pending → Finality → PlainState
state_of p clock history eth1 registry pending finality = record {
  preset = p;
  genesis_time = clock.genesis_time;
  genesis_validators_root = clock.genesis_validators_root;
  slot = clock.slot;
  fork = clock.fork;
  latest_block_header = clock.latest_block_header;
  block_roots = history.block_roots;
  state_roots = history.state_roots;
  historical_roots = history.historical_roots;
  eth1_data = eth1.eth1_data;
  eth1_data_votes = eth1.eth1_data_votes;
  eth1_deposit_index = eth1.eth1_deposit_index;
  validators = registry.validators;
  balances = registry.balances;
  randao_mixes = registry.randao_mixes;
  slashings = registry.slashings;
  previous_epoch_attestations = pending.previous_epoch_attestations;
  current_epoch_attestations = pending.current_epoch_attestations;
  justification_bits = finality.justification_bits;
  previous_justified_checkpoint = finality.previous_justified_checkpoint;
  current_justified_checkpoint = finality.current_justified_checkpoint;
  finalized_checkpoint = finality.finalized_checkpoint;
}

-- reading the groups, one after another, each from its own parts
unfoldable pub read_groups : Preset → List (List ℕ) → List (List ℕ) → List (List ℕ) → List (List ℕ) → List (List ℕ) → List (List ℕ) → Option PlainState
read_groups p a b c d e f =
    clock_fields.deserialize all_read a and_then λ clock. (history_fields p).deserialize all_read b and_then λ history.
    (eth1_fields p).deserialize all_read c and_then λ eth1. (registry_fields p).deserialize all_read d and_then λ registry.
    (pending_fields p).deserialize all_read e and_then λ pending. finality_fields.deserialize all_read f and_then λ finality.
    Some (state_of p clock history eth1 registry pending finality)

-- the groups of a state
abbrev pub clock_of : PlainState → Clock
clock_of s = record { genesis_time = s.genesis_time; genesis_validators_root = s.genesis_validators_root; slot = s.slot; fork = s.fork; latest_block_header = s.latest_block_header }

abbrev pub history_of : PlainState → History
history_of s = record { block_roots = s.block_roots; state_roots = s.state_roots; historical_roots = s.historical_roots }

abbrev pub eth1_of : PlainState → Eth1
eth1_of s = record { eth1_data = s.eth1_data; eth1_data_votes = s.eth1_data_votes; eth1_deposit_index = s.eth1_deposit_index }

abbrev pub registry_of : PlainState → Registry
registry_of s = record { validators = s.validators; balances = s.balances; randao_mixes = s.randao_mixes; slashings = s.slashings }

abbrev pub pending_of : PlainState → Pending
pending_of s = record { previous_epoch_attestations = s.previous_epoch_attestations; current_epoch_attestations = s.current_epoch_attestations }

abbrev pub finality_of : PlainState → Finality
finality_of s = record { justification_bits = s.justification_bits; previous_justified_checkpoint = s.previous_justified_checkpoint; current_justified_checkpoint = s.current_justified_checkpoint; finalized_checkpoint = s.finalized_checkpoint }
