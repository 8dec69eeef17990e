-- A preset has the bounds of specs/Bounds.antt.
use Rattle.std.proofs.Common.{refl, subst, sym, lit≤, inl, inr}
use Rattle.bc_preset.specs.declared.presets.Preset.{Preset}
use Rattle.bc_preset.specs.Presets.{mainnet, minimal, IsPreset}
use Rattle.bc_preset.specs.laws.Bounds.{HasPresetBounds}

pub mainnet_bounds : HasPresetBounds mainnet
mainnet_bounds =
    record {
      max_committees_per_slot = lit≤ tt;
      least_max_committees_per_slot = lit≤ tt;
      target_committee_size = lit≤ tt;
      least_target_committee_size = lit≤ tt;
      max_validators_per_committee = refl;
      shuffle_round_count = lit≤ tt;
      least_shuffle_round_count = lit≤ tt;
      hysteresis_quotient = refl;
      hysteresis_downward_multiplier = refl;
      hysteresis_upward_multiplier = refl;
      safe_slots_to_update_justified = lit≤ tt;
      least_safe_slots_to_update_justified = lit≤ tt;
      max_effective_balance = refl;
      effective_balance_increment = refl;
      min_attestation_inclusion_delay = refl;
      slots_per_epoch = lit≤ tt;
      least_slots_per_epoch = lit≤ tt;
      min_seed_lookahead = refl;
      max_seed_lookahead = refl;
      epochs_per_eth1_voting_period = lit≤ tt;
      least_epochs_per_eth1_voting_period = lit≤ tt;
      slots_per_historical_root = lit≤ tt;
      least_slots_per_historical_root = lit≤ tt;
      min_epochs_to_inactivity_penalty = refl;
      epochs_per_historical_vector = lit≤ tt;
      least_epochs_per_historical_vector = lit≤ tt;
      epochs_per_slashings_vector = lit≤ tt;
      least_epochs_per_slashings_vector = lit≤ tt;
      historical_roots_limit = refl;
      validator_registry_limit = refl;
      base_reward_factor = refl;
      whistleblower_reward_quotient = refl;
      proposer_reward_quotient = refl;
      inactivity_penalty_quotient = lit≤ tt;
      least_inactivity_penalty_quotient = lit≤ tt;
      min_slashing_penalty_quotient = lit≤ tt;
      least_min_slashing_penalty_quotient = lit≤ tt;
      proportional_slashing_multiplier = lit≤ tt;
      least_proportional_slashing_multiplier = lit≤ tt;
      max_proposer_slashings = refl;
      max_attester_slashings = refl;
      max_attestations = refl;
      max_deposits = refl;
      max_voluntary_exits = refl;
    }

pub minimal_bounds : HasPresetBounds minimal
minimal_bounds =
    record {
      max_committees_per_slot = lit≤ tt;
      least_max_committees_per_slot = lit≤ tt;
      target_committee_size = lit≤ tt;
      least_target_committee_size = lit≤ tt;
      max_validators_per_committee = refl;
      shuffle_round_count = lit≤ tt;
      least_shuffle_round_count = lit≤ tt;
      hysteresis_quotient = refl;
      hysteresis_downward_multiplier = refl;
      hysteresis_upward_multiplier = refl;
      safe_slots_to_update_justified = lit≤ tt;
      least_safe_slots_to_update_justified = lit≤ tt;
      max_effective_balance = refl;
      effective_balance_increment = refl;
      min_attestation_inclusion_delay = refl;
      slots_per_epoch = lit≤ tt;
      least_slots_per_epoch = lit≤ tt;
      min_seed_lookahead = refl;
      max_seed_lookahead = refl;
      epochs_per_eth1_voting_period = lit≤ tt;
      least_epochs_per_eth1_voting_period = lit≤ tt;
      slots_per_historical_root = lit≤ tt;
      least_slots_per_historical_root = lit≤ tt;
      min_epochs_to_inactivity_penalty = refl;
      epochs_per_historical_vector = lit≤ tt;
      least_epochs_per_historical_vector = lit≤ tt;
      epochs_per_slashings_vector = lit≤ tt;
      least_epochs_per_slashings_vector = lit≤ tt;
      historical_roots_limit = refl;
      validator_registry_limit = refl;
      base_reward_factor = refl;
      whistleblower_reward_quotient = refl;
      proposer_reward_quotient = refl;
      inactivity_penalty_quotient = lit≤ tt;
      least_inactivity_penalty_quotient = lit≤ tt;
      min_slashing_penalty_quotient = lit≤ tt;
      least_min_slashing_penalty_quotient = lit≤ tt;
      proportional_slashing_multiplier = lit≤ tt;
      least_proportional_slashing_multiplier = lit≤ tt;
      max_proposer_slashings = refl;
      max_attester_slashings = refl;
      max_attestations = refl;
      max_deposits = refl;
      max_voluntary_exits = refl;
    }

pub preset_bounds : (p : Preset) → IsPreset p → HasPresetBounds p
unfolding IsPreset
preset_bounds p (inl e) = subst HasPresetBounds (sym e) mainnet_bounds
preset_bounds p (inr e) = subst HasPresetBounds (sym e) minimal_bounds
