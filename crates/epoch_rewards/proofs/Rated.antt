-- What is reckoned of a validator's effective balance is what is published of the validator.
use Rattle.std.proofs.Common.{◌≡◌, ℕ, ◌/◌, Some, slice_get, sym, ap, subst, ◌∙◌}
use Rattle.bc_words.specs.Outcome.{bind, done, GivesExactly}
use Rattle.spec_state.specs.declared.plain.PlainState.{PlainState}
use Rattle.spec_epochs.specs.GetBaseReward.{get_base_reward}
use Rattle.spec_epochs.specs.RewardHelpers.{get_proposer_reward}
use Rattle.spec_epochs.specs.GetInactivityPenaltyDeltas.{absence_penalty}
use Rattle.balance_totals.specs.declared.stake.Stake.{Stake}
use Rattle.balance_totals.specs.inside.Stakes.{stakes_of}
use Rattle.epoch_rewards.specs.declared.rates.Rates.{Rates}
use Rattle.epoch_rewards.specs.inside.Rates.{base_by_balance, proposer_by_balance, absence_by_balance, AreRates}
use Rattle.epoch_rewards.proofs.Divisor.{base_here}
use Rattle.epoch_rewards.proofs.Gathered.{absence_here}

module _ (state : PlainState) (index : ℕ) (s : Stake) (rates : Rates) (at : slice_get (stakes_of state) index ≡ Some s) (are : AreRates state rates) (of : rates.effective_balance ≡ s.effective_balance) where
  pub base_rated : GivesExactly rates.base (get_base_reward state index)
  base_rated = subst (GivesExactly rates.base) (ap (base_by_balance state) of ∙ sym (base_here state index s at)) are.base

  proposer_here : get_proposer_reward state index ≡ proposer_by_balance state s.effective_balance
  unfolding get_proposer_reward proposer_by_balance
  proposer_here = ap (λ o. bind o (λ base_reward. done (base_reward / state.preset.proposer_reward_quotient))) (base_here state index s at)

  pub proposer_rated : GivesExactly rates.proposer (get_proposer_reward state index)
  proposer_rated = subst (GivesExactly rates.proposer) (ap (proposer_by_balance state) of ∙ sym proposer_here) are.proposer

  pub absence_rated : GivesExactly rates.absence (absence_penalty state index)
  absence_rated = subst (GivesExactly rates.absence) (ap (absence_by_balance state) of ∙ sym (absence_here state index s at)) are.absence
