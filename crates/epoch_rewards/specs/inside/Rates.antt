-- What rewards and penalties reckon of an effective balance alone.
use Rattle.std.specs.Prelude.{ℕ, ◌/◌}
use Rattle.bc_words.specs.Outcome.{Outcome, done, ◌>>=◌, checked_mul, GivesExactly}
use Rattle.spec_state.specs.declared.plain.PlainState.{PlainState}
use Rattle.spec_state.specs.Constants.{base_rewards_per_epoch}
use Rattle.spec_epochs.specs.RewardHelpers.{get_finality_delay}
use Rattle.epoch_rewards.specs.declared.rates.Rates.{Rates}
use Rattle.epoch_rewards.specs.inside.Divisor.{divisor_of}

-- the base reward of a validator that has it
unfoldable pub base_by_balance : PlainState → ℕ → Outcome ℕ
base_by_balance state effective_balance = do
  root ← divisor_of state
  weighed ← checked_mul effective_balance state.preset.base_reward_factor
  done (weighed / root / base_rewards_per_epoch)

-- what goes to the proposer who includes such a validator
unfoldable pub proposer_by_balance : PlainState → ℕ → Outcome ℕ
proposer_by_balance state effective_balance = do
  base_reward ← base_by_balance state effective_balance
  done (base_reward / state.preset.proposer_reward_quotient)

-- what such a validator loses in the leak besides, where it didn't attest to the target
unfoldable pub absence_by_balance : PlainState → ℕ → Outcome ℕ
absence_by_balance state effective_balance = do
  finality_delay ← get_finality_delay state
  weighed ← checked_mul effective_balance finality_delay
  done (weighed / state.preset.inactivity_penalty_quotient)

-- all three are those of the effective balance
pub record AreRates (state : PlainState) (rates : Rates) : Type 0 where
  pub base : GivesExactly rates.base (base_by_balance state rates.effective_balance)
  pub proposer : GivesExactly rates.proposer (proposer_by_balance state rates.effective_balance)
  pub absence : GivesExactly rates.absence (absence_by_balance state rates.effective_balance)
