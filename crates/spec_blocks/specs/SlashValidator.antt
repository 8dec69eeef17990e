-- slash_validator (beacon-chain.md, "Beacon state mutators").
use Rattle.std.specs.Prelude.{ℕ, ◌/◌, ◌%◌, max, true, slice_set}
use Rattle.bc_words.specs.Outcome.{Outcome, done, ◌>>=◌, checked_add, checked_sub}
use Rattle.bc_preset.specs.declared.configuration.ConfigValues.{ConfigValues}
use Rattle.spec_state.specs.declared.plain.PlainState.{PlainState}
use Rattle.spec_state.specs.Accessors.{get_current_epoch}
use Rattle.spec_blocks.specs.Checks.{item_at}
use Rattle.spec_blocks.specs.IncreaseBalance.{increase_balance}
use Rattle.spec_blocks.specs.DecreaseBalance.{decrease_balance}
use Rattle.spec_blocks.specs.InitiateValidatorExit.{initiate_validator_exit}

-- the validator leaves, is slashed, and is withdrawable later; what was slashed in this epoch grows by its effective
-- balance
unfoldable pub mark_slashed : PlainState → ℕ → ConfigValues → Outcome PlainState
mark_slashed state slashed_index config = do
  let epoch = get_current_epoch state
  leaving ← initiate_validator_exit state slashed_index config
  validator ← item_at leaving.validators slashed_index
  withdrawable_epoch ← checked_add epoch leaving.preset.epochs_per_slashings_vector
  let slashed = record validator { slashed = true; withdrawable_epoch = max validator.withdrawable_epoch withdrawable_epoch }
  slashings_before ← item_at leaving.slashings (epoch % leaving.preset.epochs_per_slashings_vector)
  slashings ← checked_add slashings_before validator.effective_balance
  done (record leaving {
    validators = slice_set leaving.validators slashed_index slashed;
    slashings = slice_set leaving.slashings (epoch % leaving.preset.epochs_per_slashings_vector) slashings;
  })

-- slash_validator(state, slashed_index), where proposer is the block's proposer, who is the whistleblower too: it gets its
-- own reward and then the rest of the whistleblower's
unfoldable pub slash_validator : PlainState → ℕ → ℕ → ConfigValues → Outcome PlainState
slash_validator state slashed_index proposer config = do
  marked ← mark_slashed state slashed_index config
  validator ← item_at marked.validators slashed_index
  lowered ← decrease_balance marked slashed_index (validator.effective_balance / marked.preset.min_slashing_penalty_quotient)
  let whistleblower_reward = validator.effective_balance / marked.preset.whistleblower_reward_quotient
  let proposer_reward = whistleblower_reward / marked.preset.proposer_reward_quotient
  rewarded ← increase_balance lowered proposer proposer_reward
  rest ← checked_sub whistleblower_reward proposer_reward
  increase_balance rewarded proposer rest
