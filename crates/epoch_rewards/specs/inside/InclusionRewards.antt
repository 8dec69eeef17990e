-- What the inclusion of attestations brings, where each attester's inclusion is known: one validator, and all.
use Rattle.std.specs.Prelude.{ℕ, ◌/◌, List, Option, Some, None, slice_index, slice_index_or, slice_set, if◌then◌else◌, [], ◌∷◌, replicate, length}
use Rattle.bc_words.specs.Outcome.{Outcome, done, ◌>>=◌, checked_add, checked_sub}
use Rattle.spec_state.specs.declared.plain.PlainState.{PlainState}
use Rattle.spec_epochs.specs.Each.{is_among, validator_indices, checked_map}
use Rattle.spec_epochs.specs.GetBaseReward.{get_base_reward}
use Rattle.spec_epochs.specs.RewardHelpers.{get_proposer_reward}
use Rattle.epoch_rewards.specs.declared.inclusions.Inclusion.{Inclusion}
use Rattle.spec_epochs.specs.declared.deltas.Deltas.{Deltas}

-- the inclusion of a validator
abbrev pub entry_at : List (Option Inclusion) → ℕ → Option Inclusion
entry_at entries index = slice_index_or entries index None

-- the gain of the proposer who included an attester
unfoldable pub included : PlainState → ℕ → Option Inclusion → List ℕ → Outcome (List ℕ)
included state attester None gains = done gains
included state attester (Some e) gains = do
  reward ← get_proposer_reward state attester
  sum ← checked_add (slice_index gains e.proposer) reward
  done (slice_set gains e.proposer sum)

-- what an attester gets
unfoldable pub delayed_by : PlainState → ℕ → Option Inclusion → Outcome ℕ
delayed_by state index None = done 0
delayed_by state index (Some e) = do
  base_reward ← get_base_reward state index
  proposer_reward ← get_proposer_reward state index
  max_attester_reward ← checked_sub base_reward proposer_reward
  done (max_attester_reward / e.delay)

-- what a validator gets as an attester, where it is one
unfoldable pub own_reward : PlainState → List (Option Inclusion) → List ℕ → ℕ → Outcome ℕ
own_reward state entries attesters index = if is_among index attesters then delayed_by state index (entry_at entries index) else done 0

-- what a validator gets, where its gains as a proposer are known
unfoldable pub joined_reward : PlainState → List (Option Inclusion) → List ℕ → List ℕ → ℕ → Outcome ℕ
joined_reward state entries attesters gains index = do
  own ← own_reward state entries attesters index
  checked_add (slice_index gains index) own

-- the gains of proposers by some attesters, one attester after the other
unfoldable pub all_included : PlainState → List (Option Inclusion) → List ℕ → List ℕ → Outcome (List ℕ)
all_included state entries gains [] = done gains
all_included state entries gains (attester ∷ attesters) = do
  more ← included state attester (entry_at entries attester) gains
  all_included state entries more attesters

-- those of all attesters
abbrev pub all_gains : PlainState → List (Option Inclusion) → List ℕ → Outcome (List ℕ)
all_gains state entries attesters = all_included state entries (replicate (length state.validators) 0) attesters

-- what each gets, in order of index
abbrev pub joined_rewards : PlainState → List (Option Inclusion) → List ℕ → List ℕ → Outcome (List ℕ)
joined_rewards state entries attesters gains = checked_map (joined_reward state entries attesters gains) (validator_indices state)

-- what all get
unfoldable pub all_joined : PlainState → List (Option Inclusion) → List ℕ → Outcome (List ℕ)
all_joined state entries attesters = do
  gains ← all_gains state entries attesters
  joined_rewards state entries attesters gains

-- rewards and penalties of all
unfoldable pub joined_deltas : PlainState → List (Option Inclusion) → List ℕ → Outcome Deltas
joined_deltas state entries attesters = do
  rewards ← all_joined state entries attesters
  done (record { rewards = rewards; penalties = replicate (length state.validators) 0 })
