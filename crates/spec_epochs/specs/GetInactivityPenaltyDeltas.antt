-- get_inactivity_penalty_deltas (beacon-chain.md, "Components of attestation deltas").
use Rattle.std.specs.Prelude.{ℕ, ◌/◌, List, map, if◌then◌else◌}
use Rattle.bc_words.specs.Outcome.{Outcome, done, ◌>>=◌, checked_add, checked_sub, checked_mul}
use Rattle.spec_state.specs.declared.plain.PlainState.{PlainState}
use Rattle.spec_state.specs.Constants.{base_rewards_per_epoch}
use Rattle.spec_state.specs.Accessors.{get_previous_epoch}
use Rattle.spec_blocks.specs.Checks.{item_at}
use Rattle.spec_epochs.specs.declared.deltas.Deltas.{Deltas}
use Rattle.spec_epochs.specs.Each.{validator_indices, checked_map, is_among}
use Rattle.spec_epochs.specs.Helpers.{get_matching_target_attestations, get_unslashed_attesting_indices}
use Rattle.spec_epochs.specs.GetBaseReward.{get_base_reward}
use Rattle.spec_epochs.specs.RewardHelpers.{get_proposer_reward, get_finality_delay, is_in_inactivity_leak, get_eligible_validator_indices}

-- what an eligible validator that didn't attest to the target loses besides
unfoldable pub absence_penalty : PlainState → ℕ → Outcome ℕ
absence_penalty state index = do
  validator ← item_at state.validators index
  finality_delay ← get_finality_delay state
  weighed ← checked_mul validator.effective_balance finality_delay
  done (weighed / state.preset.inactivity_penalty_quotient)

-- what an eligible validator loses in the leak, where these attested to the target
unfoldable pub inactivity_penalty : PlainState → List ℕ → ℕ → Outcome ℕ
inactivity_penalty state target_attesters index = do
  base_reward ← get_base_reward state index
  proposer_reward ← get_proposer_reward state index
  all_rewards ← checked_mul base_rewards_per_epoch base_reward
  -- with the best performance this takes all rewards away
  penalty ← checked_sub all_rewards proposer_reward
  more ← if is_among index target_attesters then done 0 else absence_penalty state index
  checked_add penalty more

-- get_inactivity_penalty_deltas(state): no rewards
unfoldable pub get_inactivity_penalty_deltas : PlainState → Outcome Deltas
get_inactivity_penalty_deltas state = do
  leak ← is_in_inactivity_leak state
  let target_attesters = get_unslashed_attesting_indices state (get_matching_target_attestations state (get_previous_epoch state))
  let eligible = get_eligible_validator_indices state
  let nothing = map (λ index. 0) (validator_indices state)
  penalties ← if leak then checked_map (λ index. if is_among index eligible then inactivity_penalty state target_attesters index else done 0) (validator_indices state) else done nothing
  done (record { rewards = nothing; penalties = penalties })
