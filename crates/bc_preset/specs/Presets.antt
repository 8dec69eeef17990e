-- The two presets of phase 0 (presets/mainnet/phase0.yaml and presets/minimal/phase0.yaml).
use Rattle.std.specs.Prelude.{◌≡◌, ◌⊎◌}
use Rattle.bc_preset.specs.declared.presets.Preset.{Preset}

-- the preset mainnet
abbrev pub mainnet : Preset
mainnet =
    record {
      max_committees_per_slot = 64;
      target_committee_size = 128;
      max_validators_per_committee = 2048;
      shuffle_round_count = 90;
      hysteresis_quotient = 4;
      hysteresis_downward_multiplier = 1;
      hysteresis_upward_multiplier = 5;
      safe_slots_to_update_justified = 8;
      max_effective_balance = 32_000_000_000;
      effective_balance_increment = 1_000_000_000;
      min_attestation_inclusion_delay = 1;
      slots_per_epoch = 32;
      min_seed_lookahead = 1;
      max_seed_lookahead = 4;
      epochs_per_eth1_voting_period = 64;
      slots_per_historical_root = 8192;
      min_epochs_to_inactivity_penalty = 4;
      epochs_per_historical_vector = 65536;
      epochs_per_slashings_vector = 8192;
      historical_roots_limit = 16_777_216;
      validator_registry_limit = 1_099_511_627_776;
      base_reward_factor = 64;
      whistleblower_reward_quotient = 512;
      proposer_reward_quotient = 8;
      inactivity_penalty_quotient = 67_108_864;
      min_slashing_penalty_quotient = 128;
      proportional_slashing_multiplier = 1;
      max_proposer_slashings = 16;
      max_attester_slashings = 2;
      max_attestations = 128;
      max_deposits = 16;
      max_voluntary_exits = 16;
    }

-- the preset minimal
abbrev pub minimal : Preset
minimal =
    record {
      max_committees_per_slot = 4;
      target_committee_size = 4;
      max_validators_per_committee = 2048;
      shuffle_round_count = 10;
      hysteresis_quotient = 4;
      hysteresis_downward_multiplier = 1;
      hysteresis_upward_multiplier = 5;
      safe_slots_to_update_justified = 2;
      max_effective_balance = 32_000_000_000;
      effective_balance_increment = 1_000_000_000;
      min_attestation_inclusion_delay = 1;
      slots_per_epoch = 8;
      min_seed_lookahead = 1;
      max_seed_lookahead = 4;
      epochs_per_eth1_voting_period = 4;
      slots_per_historical_root = 64;
      min_epochs_to_inactivity_penalty = 4;
      epochs_per_historical_vector = 64;
      epochs_per_slashings_vector = 64;
      historical_roots_limit = 16_777_216;
      validator_registry_limit = 1_099_511_627_776;
      base_reward_factor = 64;
      whistleblower_reward_quotient = 512;
      proposer_reward_quotient = 8;
      inactivity_penalty_quotient = 33_554_432;
      min_slashing_penalty_quotient = 64;
      proportional_slashing_multiplier = 2;
      max_proposer_slashings = 16;
      max_attester_slashings = 2;
      max_attestations = 128;
      max_deposits = 16;
      max_voluntary_exits = 16;
    }

-- a preset is one of the two
unfoldable pub IsPreset : Preset → Type 0
IsPreset p = (p ≡ mainnet) ⊎ (p ≡ minimal)
