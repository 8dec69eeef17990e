-- get_attestation_component_deltas (beacon-chain.md, "Rewards and penalties", "Helpers").
use Rattle.std.specs.Prelude.{ℕ, ◌/◌, Bool, ◌&&◌, not, List, if◌then◌else◌}
use Rattle.bc_words.specs.Outcome.{Outcome, done, ◌>>=◌, checked_mul}
use Rattle.beacon_types.specs.declared.pending_attestation.PendingAttestation.{PendingAttestation}
use Rattle.spec_state.specs.declared.plain.PlainState.{PlainState}
use Rattle.spec_state.specs.Accessors.{get_total_active_balance, get_total_balance}
use Rattle.spec_epochs.specs.declared.deltas.Deltas.{Deltas}
use Rattle.spec_epochs.specs.Each.{validator_indices, checked_map, is_among}
use Rattle.spec_epochs.specs.Helpers.{get_unslashed_attesting_indices}
use Rattle.spec_epochs.specs.GetBaseReward.{get_base_reward}
use Rattle.spec_epochs.specs.RewardHelpers.{is_in_inactivity_leak, get_eligible_validator_indices}

-- What an eligible validator that attested gains. In the leak it is the whole base reward, which the inactivity penalty
-- takes again. Increments are taken out of both balances so that the product is smaller.
unfoldable pub attester_reward : PlainState → Bool → ℕ → ℕ → ℕ → Outcome ℕ
attester_reward state leak attesting_balance total_balance index = do
  let increment = state.preset.effective_balance_increment
  base_reward ← get_base_reward state index
  if leak then done base_reward else do
    reward_numerator ← checked_mul base_reward (attesting_balance / increment)
    done (reward_numerator / (total_balance / increment))

-- get_attestation_component_deltas(state, attestations). The attesters' balance is needed outside the leak alone
unfoldable pub get_attestation_component_deltas : PlainState → List PendingAttestation → Outcome Deltas
get_attestation_component_deltas state attestations = do
  total_balance ← get_total_active_balance state
  leak ← is_in_inactivity_leak state
  let attesters = get_unslashed_attesting_indices state attestations
  let eligible = get_eligible_validator_indices state
  attesting_balance ← if leak then done 0 else get_total_balance state attesters
  rewards ← checked_map (λ index. if is_among index eligible && is_among index attesters then attester_reward state leak attesting_balance total_balance index else done 0) (validator_indices state)
  penalties ← checked_map (λ index. if is_among index eligible && not (is_among index attesters) then get_base_reward state index else done 0) (validator_indices state)
  done (record { rewards = rewards; penalties = penalties })
