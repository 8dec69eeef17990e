-- What holds of both presets, for proofs about slots, epochs, committees and limits.
use Rattle.std.specs.Prelude.{◌≡◌, ◌≤◌}
use Rattle.bc_preset.specs.declared.presets.Preset.{Preset}

-- each number of the preset lies between those of the two presets
pub record HasPresetBounds (p : Preset) : Type 0 where
  pub max_committees_per_slot : p.max_committees_per_slot ≤ 64
  pub least_max_committees_per_slot : 4 ≤ p.max_committees_per_slot
  pub target_committee_size : p.target_committee_size ≤ 128
  pub least_target_committee_size : 4 ≤ p.target_committee_size
  pub max_validators_per_committee : p.max_validators_per_committee ≡ 2048
  pub shuffle_round_count : p.shuffle_round_count ≤ 90
  pub least_shuffle_round_count : 10 ≤ p.shuffle_round_count
  pub hysteresis_quotient : p.hysteresis_quotient ≡ 4
  pub hysteresis_downward_multiplier : p.hysteresis_downward_multiplier ≡ 1
  pub hysteresis_upward_multiplier : p.hysteresis_upward_multiplier ≡ 5
  pub safe_slots_to_update_justified : p.safe_slots_to_update_justified ≤ 8
  pub least_safe_slots_to_update_justified : 2 ≤ p.safe_slots_to_update_justified
  pub max_effective_balance : p.max_effective_balance ≡ 32_000_000_000
  pub effective_balance_increment : p.effective_balance_increment ≡ 1_000_000_000
  pub min_attestation_inclusion_delay : p.min_attestation_inclusion_delay ≡ 1
  pub slots_per_epoch : p.slots_per_epoch ≤ 32
  pub least_slots_per_epoch : 8 ≤ p.slots_per_epoch
  pub min_seed_lookahead : p.min_seed_lookahead ≡ 1
  pub max_seed_lookahead : p.max_seed_lookahead ≡ 4
  pub epochs_per_eth1_voting_period : p.epochs_per_eth1_voting_period ≤ 64
  pub least_epochs_per_eth1_voting_period : 4 ≤ p.epochs_per_eth1_voting_period
  pub slots_per_historical_root : p.slots_per_historical_root ≤ 8192
  pub least_slots_per_historical_root : 64 ≤ p.slots_per_historical_root
  pub min_epochs_to_inactivity_penalty : p.min_epochs_to_inactivity_penalty ≡ 4
  pub epochs_per_historical_vector : p.epochs_per_historical_vector ≤ 65536
  pub least_epochs_per_historical_vector : 64 ≤ p.epochs_per_historical_vector
  pub epochs_per_slashings_vector : p.epochs_per_slashings_vector ≤ 8192
  pub least_epochs_per_slashings_vector : 64 ≤ p.epochs_per_slashings_vector
  pub historical_roots_limit : p.historical_roots_limit ≡ 16_777_216
  pub validator_registry_limit : p.validator_registry_limit ≡ 1_099_511_627_776
  pub base_reward_factor : p.base_reward_factor ≡ 64
  pub whistleblower_reward_quotient : p.whistleblower_reward_quotient ≡ 512
  pub proposer_reward_quotient : p.proposer_reward_quotient ≡ 8
  pub inactivity_penalty_quotient : p.inactivity_penalty_quotient ≤ 67_108_864
  pub least_inactivity_penalty_quotient : 33_554_432 ≤ p.inactivity_penalty_quotient
  pub min_slashing_penalty_quotient : p.min_slashing_penalty_quotient ≤ 128
  pub least_min_slashing_penalty_quotient : 64 ≤ p.min_slashing_penalty_quotient
  pub proportional_slashing_multiplier : p.proportional_slashing_multiplier ≤ 2
  pub least_proportional_slashing_multiplier : 1 ≤ p.proportional_slashing_multiplier
  pub max_proposer_slashings : p.max_proposer_slashings ≡ 16
  pub max_attester_slashings : p.max_attester_slashings ≡ 2
  pub max_attestations : p.max_attestations ≡ 128
  pub max_deposits : p.max_deposits ≡ 16
  pub max_voluntary_exits : p.max_voluntary_exits ≡ 16
