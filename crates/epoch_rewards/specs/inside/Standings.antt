-- How a validator stands: what its rewards and penalties are reckoned by.
use Rattle.std.specs.Prelude.{◌≡◌, Some, List, slice_get}
use Rattle.bc_words.specs.Outcome.{GivesExactly}
use Rattle.spec_state.specs.declared.plain.PlainState.{PlainState}
use Rattle.spec_epochs.specs.Each.{is_among}
use Rattle.spec_epochs.specs.GetBaseReward.{get_base_reward}
use Rattle.spec_epochs.specs.RewardHelpers.{get_proposer_reward}
use Rattle.spec_epochs.specs.GetInactivityPenaltyDeltas.{absence_penalty}
use Rattle.balance_totals.specs.inside.Stakes.{stakes_of}
use Rattle.epoch_rewards.specs.declared.matching.Vote.TheVariants.{Source, Target, Head}
use Rattle.epoch_rewards.specs.declared.table.Status.{Status}
use Rattle.epoch_rewards.specs.inside.Marks.{flagged}
use Rattle.epoch_rewards.specs.inside.Statuses.{flags_of, entries_of}
use Rattle.epoch_rewards.specs.declared.standing.Standing.{Standing}
use Rattle.epoch_rewards.specs.inside.InclusionRewards.{entry_at}

-- it is that of the validator with its index, by a state and a table of statuses
pub record IsStanding (state : PlainState) (statuses : List Status) (s : Standing) : Type 0 where
  pub stake : slice_get (stakes_of state) s.index ≡ Some s.stake
  pub source : is_among s.index (flagged state (flags_of Source statuses)) ≡ s.source
  pub target : is_among s.index (flagged state (flags_of Target statuses)) ≡ s.target
  pub head : is_among s.index (flagged state (flags_of Head statuses)) ≡ s.head
  pub inclusion : entry_at (entries_of statuses) s.index ≡ s.inclusion
  pub base : GivesExactly s.rates.base (get_base_reward state s.index)
  pub proposer : GivesExactly s.rates.proposer (get_proposer_reward state s.index)
  pub absence : GivesExactly s.rates.absence (absence_penalty state s.index)
  pub balance : slice_get state.balances s.index ≡ s.balance
