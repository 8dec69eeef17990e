-- Rewards and penalties of a vote, where the attesters are known: those of one validator, and of all.
use Rattle.std.specs.Prelude.{◌≡◌, ℕ, ◌≤◌, ◌/◌, Bool, ◌&&◌, not, List, if◌then◌else◌}
use Rattle.bc_words.specs.Outcome.{Outcome, done, ◌>>=◌}
use Rattle.spec_state.specs.declared.plain.PlainState.{PlainState}
use Rattle.spec_epochs.specs.Each.{is_among, validator_indices, checked_map}
use Rattle.spec_epochs.specs.GetBaseReward.{get_base_reward}
use Rattle.spec_epochs.specs.RewardHelpers.{get_eligible_validator_indices, is_in_inactivity_leak}
use Rattle.spec_epochs.specs.GetAttestationComponentDeltas.{attester_reward, get_attestation_component_deltas}
use Rattle.epoch_rewards.specs.declared.get_attestation_component_deltas.Weights.{Weights}
use Rattle.spec_state.specs.Accessors.{get_previous_epoch, get_total_active_balance, get_total_balance}
use Rattle.spec_epochs.specs.declared.deltas.Deltas.{Deltas}
use Rattle.epoch_rewards.specs.declared.matching.Vote.{Vote}
use Rattle.epoch_rewards.specs.inside.Votes.{matching}

-- both balances of a component's weights stand there in whole increments too, and the total has one at least
pub record AreWeights (state : PlainState) (weights : Weights) : Type 0 where
  pub attesting : weights.attesting_increments ≡ weights.attesting / state.preset.effective_balance_increment
  pub total : weights.total_increments ≡ weights.total / state.preset.effective_balance_increment
  pub some : 1 ≤ weights.total_increments

-- what a validator gains
unfoldable pub component_reward : PlainState → List ℕ → Bool → ℕ → ℕ → ℕ → Outcome ℕ
component_reward state attesters leak attesting_balance total_balance index =
    if is_among index (get_eligible_validator_indices state) && is_among index attesters then attester_reward state leak attesting_balance total_balance index else done 0

-- what a validator loses
unfoldable pub component_penalty : PlainState → List ℕ → ℕ → Outcome ℕ
component_penalty state attesters index =
    if is_among index (get_eligible_validator_indices state) && not (is_among index attesters) then get_base_reward state index else done 0

-- what each gains, in order of index
abbrev pub component_rewards : PlainState → List ℕ → Bool → ℕ → ℕ → Outcome (List ℕ)
component_rewards state attesters leak attesting_balance total_balance =
    checked_map (component_reward state attesters leak attesting_balance total_balance) (validator_indices state)

-- what each loses, in order of index
abbrev pub component_penalties : PlainState → List ℕ → Outcome (List ℕ)
component_penalties state attesters = checked_map (component_penalty state attesters) (validator_indices state)

-- the attesters' balance, which is needed outside the leak alone
unfoldable pub needed_balance : PlainState → List ℕ → Bool → Outcome ℕ
needed_balance state attesters leak = if leak then done 0 else get_total_balance state attesters

-- rewards and penalties of all
unfoldable pub component_deltas : PlainState → List ℕ → Outcome Deltas
component_deltas state attesters = do
  total_balance ← get_total_active_balance state
  leak ← is_in_inactivity_leak state
  attesting_balance ← needed_balance state attesters leak
  rewards ← component_rewards state attesters leak attesting_balance total_balance
  penalties ← component_penalties state attesters
  done (record { rewards = rewards; penalties = penalties })

-- the published deltas of the previous epoch's attestations that have a vote right
abbrev pub vote_deltas : PlainState → Vote → Outcome Deltas
vote_deltas state vote = get_attestation_component_deltas state (matching state vote (get_previous_epoch state))
