-- Helpers of rewards and penalties (beacon-chain.md, "Rewards and penalties", "Helpers"), in the published order behind
-- get_base_reward. Epochs end long before 2 ^ 64, so the epoch behind one is a plain sum.
use Rattle.std.specs.Prelude.{ℕ, ◌+◌, ◌/◌, Bool, ◌&&◌, ◌||◌, List, nat_lt}
use Rattle.bc_words.specs.Outcome.{Outcome, done, ◌>>=◌, checked_sub}
use Rattle.spec_state.specs.declared.plain.PlainState.{PlainState}
use Rattle.spec_state.specs.Predicates.{is_active_validator}
use Rattle.spec_state.specs.Accessors.{get_previous_epoch, indices_from}
use Rattle.spec_epochs.specs.GetBaseReward.{get_base_reward}

-- get_proposer_reward
unfoldable pub get_proposer_reward : PlainState → ℕ → Outcome ℕ
get_proposer_reward state attesting_index = do
  base_reward ← get_base_reward state attesting_index
  done (base_reward / state.preset.proposer_reward_quotient)

-- get_finality_delay
unfoldable pub get_finality_delay : PlainState → Outcome ℕ
get_finality_delay state = checked_sub (get_previous_epoch state) state.finalized_checkpoint.epoch

-- is_in_inactivity_leak
unfoldable pub is_in_inactivity_leak : PlainState → Outcome Bool
is_in_inactivity_leak state = do
  delay ← get_finality_delay state
  done (nat_lt state.preset.min_epochs_to_inactivity_penalty delay)

-- get_eligible_validator_indices
unfoldable pub get_eligible_validator_indices : PlainState → List ℕ
get_eligible_validator_indices state =
    let previous_epoch : ℕ = get_previous_epoch state in
    indices_from (λ v. is_active_validator v previous_epoch || (v.slashed && nat_lt (previous_epoch + 1) v.withdrawable_epoch)) 0 state.validators
