-- The genesis state of a made chain.
use Rattle.hash_tree.specs.Merkle.{uint_to_bytes}
use Rattle.std.specs.Prelude.{ℕ, false, List, [], ◌++◌, map, replicate}
use Rattle.std.specs.List.{range_with_len}
use Rattle.ssz_codec.specs.Lists.{list_codec}
use Rattle.beacon_types.specs.declared.validator.Validator.{Validator}
use Rattle.beacon_types.specs.declared.checkpoint.Checkpoint.{Checkpoint}
use Rattle.beacon_types.specs.declared.eth1_data.Eth1Data.{Eth1Data}
use Rattle.beacon_types.specs.Containers.{validator_codec}
use Rattle.beacon_types.specs.Blocks.{empty_body_root}
use Rattle.bc_preset.specs.declared.presets.Preset.{Preset}
use Rattle.spec_state.specs.declared.plain.PlainState.{PlainState}
use Rattle.spec_state.specs.Constants.{far_future_epoch}
use Rattle.spec_state.specs.Genesis.{zero_root}
use Rattle.spec_drill.specs.Plan.{Plan, slot_digest}

-- the validator with an index: its key is the index and the number, each as 8 bytes, and 32 zero bytes
unfoldable pub made_validator : ℕ → ℕ → Validator
made_validator number index = record {
  pubkey = uint_to_bytes index ++ uint_to_bytes number ++ replicate 32 0;
  withdrawal_credentials = replicate 32 0;
  effective_balance = 32_000_000_000;
  slashed = false;
  activation_eligibility_epoch = 0;
  activation_epoch = 0;
  exit_epoch = far_future_epoch;
  withdrawable_epoch = far_future_epoch;
}

-- the eth1 data of genesis, by which no deposit is due
abbrev pub zero_eth1 : Eth1Data
zero_eth1 = record { deposit_root = zero_root; deposit_count = 0; block_hash = replicate 32 0 }

-- the checkpoints of genesis
abbrev pub zero_checkpoint : Checkpoint
zero_checkpoint = record { epoch = 0; root = zero_root }

-- the genesis state: it began at second 1000, with 64 validators; each randao mix is the digest of slot 0; all else is zero or empty
unfoldable pub made_genesis : Preset → ℕ → PlainState
made_genesis preset number =
    let validators : List Validator = map (made_validator number) (range_with_len 0 64) in
    record {
      preset = preset;
      genesis_time = 1000;
      genesis_validators_root = (list_codec validator_codec preset.validator_registry_limit).hash_tree_root validators;
      slot = 0;
      fork = record { previous_version = replicate 4 0; current_version = replicate 4 0; epoch = 0 };
      latest_block_header = record { slot = 0; proposer_index = 0; parent_root = zero_root; state_root = zero_root; body_root = empty_body_root };
      block_roots = replicate preset.slots_per_historical_root zero_root;
      state_roots = replicate preset.slots_per_historical_root zero_root;
      historical_roots = [];
      eth1_data = zero_eth1;
      eth1_data_votes = [];
      eth1_deposit_index = 0;
      validators = validators;
      balances = replicate 64 32_000_000_000;
      randao_mixes = replicate preset.epochs_per_historical_vector (slot_digest number 0);
      slashings = replicate preset.epochs_per_slashings_vector 0;
      previous_epoch_attestations = [];
      current_epoch_attestations = [];
      justification_bits = replicate 4 false;
      previous_justified_checkpoint = zero_checkpoint;
      current_justified_checkpoint = zero_checkpoint;
      finalized_checkpoint = zero_checkpoint;
    }

-- the genesis state of a plan's chain
unfoldable pub genesis_of_plan : Plan → PlainState
genesis_of_plan plan = made_genesis plan.config.preset plan.number
