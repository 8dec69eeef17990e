-- The balance of a validator after all five parts of its rewards and penalties, and those of all.
use Rattle.std.specs.Prelude.{ℕ, ◌-◌, ◌/◌, Bool, List, Option, slice_get, if◌then◌else◌}
use Rattle.bc_words.specs.Outcome.{Outcome, done, ◌>>=◌, checked_add}
use Rattle.spec_state.specs.declared.plain.PlainState.{PlainState}
use Rattle.spec_blocks.specs.Checks.{found}
use Rattle.epoch_rewards.specs.declared.inclusions.Inclusion.{Inclusion}
use Rattle.epoch_rewards.specs.declared.get_attestation_component_deltas.Weights.{Weights}
use Rattle.epoch_rewards.specs.declared.paid.Delta.{Delta}
use Rattle.epoch_rewards.specs.inside.Components.{component_reward, component_penalty, needed_balance}
use Rattle.epoch_rewards.specs.inside.InclusionRewards.{joined_reward, all_gains}
use Rattle.epoch_rewards.specs.inside.Leak.{leak_penalty}
use Rattle.spec_state.specs.Accessors.{get_total_active_balance}
use Rattle.spec_epochs.specs.Each.{validator_indices, checked_map}
use Rattle.spec_epochs.specs.RewardHelpers.{is_in_inactivity_leak}
use Rattle.spec_epochs.specs.GetAttestationDeltas.{get_attestation_deltas}
use Rattle.spec_epochs.specs.ProcessRewardsAndPenalties.{rewarded_balance}

-- a + b + c + d
unfoldable pub sum_of_four : ℕ → ℕ → ℕ → ℕ → Outcome ℕ
sum_of_four a b c d = do
  two ← checked_add a b
  three ← checked_add two c
  checked_add three d

-- what a validator gains and loses by a vote
unfoldable pub component_delta : PlainState → List ℕ → Weights → ℕ → Outcome Delta
component_delta state attesters w index = do
  reward ← component_reward state attesters w.leak w.attesting w.total index
  penalty ← component_penalty state attesters index
  done (record { reward = reward; penalty = penalty })

-- what a validator loses in the leak, and nothing outside it
unfoldable pub leak_part : PlainState → Bool → List ℕ → ℕ → Outcome ℕ
leak_part state leak target_attesters index = if leak then leak_penalty state target_attesters index else done 0

-- a validator's balance, where it has one, after what it gains was added and what it loses taken
unfoldable pub settled : Option ℕ → ℕ → ℕ → Outcome ℕ
settled balance rewards penalties = do
  before ← found balance
  increased ← checked_add before rewards
  done (increased - penalties)

-- the same after its five parts
unfoldable pub summed : Delta → Delta → Delta → ℕ → ℕ → Option ℕ → Outcome ℕ
summed source target head inclusion inactivity balance = do
  rewards ← sum_of_four source.reward target.reward head.reward inclusion
  penalties ← sum_of_four source.penalty target.penalty head.penalty inactivity
  settled balance rewards penalties

-- a validator's balance after its rewards and penalties, by those who had each vote right
unfoldable pub paid_balance : PlainState → List ℕ → List ℕ → List ℕ → Weights → Weights → Weights → List (Option Inclusion) → List ℕ → ℕ → Outcome ℕ
paid_balance state sources targets heads by_source by_target by_head entries gains index = do
  source ← component_delta state sources by_source index
  target ← component_delta state targets by_target index
  head ← component_delta state heads by_head index
  inclusion ← joined_reward state entries sources gains index
  inactivity ← leak_part state by_target.leak targets index
  summed source target head inclusion inactivity (slice_get state.balances index)

-- what a component is reckoned by
unfoldable pub weights_by : PlainState → Bool → ℕ → ℕ → Weights
weights_by state leak attesting total = record {
  leak = leak;
  attesting = attesting;
  attesting_increments = attesting / state.preset.effective_balance_increment;
  total = total;
  total_increments = total / state.preset.effective_balance_increment;
}

-- the published balances of all after their rewards and penalties
unfoldable pub all_rewarded : PlainState → Outcome (List ℕ)
all_rewarded state = do
  deltas ← get_attestation_deltas state
  checked_map (rewarded_balance state deltas) (validator_indices state)

-- the balances of all where what decides them is known
abbrev pub paid_balances : PlainState → List ℕ → List ℕ → List ℕ → Weights → Weights → Weights → List (Option Inclusion) → List ℕ → Outcome (List ℕ)
paid_balances state sources targets heads by_source by_target by_head entries gains =
    checked_map (paid_balance state sources targets heads by_source by_target by_head entries gains) (validator_indices state)

-- the balances of all
unfoldable pub all_paid : PlainState → List ℕ → List ℕ → List ℕ → List (Option Inclusion) → Outcome (List ℕ)
all_paid state sources targets heads entries = do
  total ← get_total_active_balance state
  leak ← is_in_inactivity_leak state
  source ← needed_balance state sources leak
  target ← needed_balance state targets leak
  head ← needed_balance state heads leak
  gains ← all_gains state entries sources
  paid_balances state sources targets heads (weights_by state leak source total) (weights_by state leak target total) (weights_by state leak head total) entries gains
