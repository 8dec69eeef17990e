-- initiate_validator_exit (beacon-chain.md, "Beacon state mutators").
use Rattle.std.specs.Prelude.{ℕ, max, not, List, [], ◌∷◌, ◌++◌, map, filter, count_by, nat_lt, ◌==◌, if◌then◌else◌, slice_set}
use Rattle.bc_words.specs.Outcome.{Outcome, done, ◌>>=◌, checked_add}
use Rattle.bc_preset.specs.declared.configuration.ConfigValues.{ConfigValues}
use Rattle.beacon_types.specs.declared.validator.Validator.{Validator}
use Rattle.spec_state.specs.declared.plain.PlainState.{PlainState}
use Rattle.spec_state.specs.Constants.{far_future_epoch}
use Rattle.spec_state.specs.Misc.{compute_activation_exit_epoch}
use Rattle.spec_state.specs.Accessors.{get_current_epoch, get_validator_churn_limit}
use Rattle.spec_blocks.specs.Checks.{item_at}

-- the exit epochs of the validators that have one
unfoldable pub exit_epochs : List Validator → List ℕ
exit_epochs validators = filter (λ epoch. not (epoch == far_future_epoch)) (map (λ v. v.exit_epoch) validators)

-- the greatest number of a list
unfoldable pub greatest : List ℕ → ℕ
greatest [] = 0
greatest (n ∷ numbers) = max n (greatest numbers)

-- how many validators leave at an epoch
unfoldable pub exit_queue_churn : List Validator → ℕ → ℕ
exit_queue_churn validators epoch = count_by (λ v. v.exit_epoch == epoch) validators

-- the epoch that the next validator to leave leaves at: the greatest of all exit epochs and the one that an exit from the
-- current epoch on comes at, or the epoch behind it where as many as the churn limit leave at it
unfoldable pub exit_queue_epoch : PlainState → ConfigValues → Outcome ℕ
exit_queue_epoch state config = do
  earliest ← compute_activation_exit_epoch state.preset (get_current_epoch state)
  let epoch = greatest (exit_epochs state.validators ++ earliest ∷ [])
  if nat_lt (exit_queue_churn state.validators epoch) (get_validator_churn_limit state config) then done epoch else checked_add epoch 1

-- initiate_validator_exit(state, index): nothing where the exit epoch is set already
unfoldable pub initiate_validator_exit : PlainState → ℕ → ConfigValues → Outcome PlainState
initiate_validator_exit state index config = do
  validator ← item_at state.validators index
  if not (validator.exit_epoch == far_future_epoch) then done state else do
    exit_epoch ← exit_queue_epoch state config
    withdrawable_epoch ← checked_add exit_epoch config.min_validator_withdrawability_delay
    let leaving = record validator { exit_epoch = exit_epoch; withdrawable_epoch = withdrawable_epoch }
    done (record state { validators = slice_set state.validators index leaving })
