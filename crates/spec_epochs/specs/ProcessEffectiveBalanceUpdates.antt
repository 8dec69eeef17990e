-- process_effective_balance_updates (beacon-chain.md, "Effective balances updates").
use Rattle.std.specs.Prelude.{ℕ, ◌-◌, ◌*◌, ◌/◌, ◌%◌, min, Bool, true, nat_lt, if◌then◌else◌}
use Rattle.bc_words.specs.Outcome.{Outcome, done, ◌>>=◌, checked_add}
use Rattle.bc_preset.specs.declared.presets.Preset.{Preset}
use Rattle.beacon_types.specs.declared.validator.Validator.{Validator}
use Rattle.spec_state.specs.declared.plain.PlainState.{PlainState}
use Rattle.spec_blocks.specs.Checks.{item_at}
use Rattle.spec_epochs.specs.Each.{validator_indices, checked_map}

-- whether a balance is so far below or above the effective balance that this changes. The upper bound is computed only
-- where the lower one doesn't decide
unfoldable pub is_out_of_bounds : Preset → ℕ → ℕ → Outcome Bool
is_out_of_bounds preset balance effective = do
  let hysteresis_increment = preset.effective_balance_increment / preset.hysteresis_quotient
  with_downward ← checked_add balance (hysteresis_increment * preset.hysteresis_downward_multiplier)
  if nat_lt with_downward effective then done true else do
    with_upward ← checked_add effective (hysteresis_increment * preset.hysteresis_upward_multiplier)
    done (nat_lt with_upward balance)

-- the validator with its new effective balance
unfoldable pub updated_validator : PlainState → ℕ → Outcome Validator
updated_validator state index = do
  validator ← item_at state.validators index
  balance ← item_at state.balances index
  changes ← is_out_of_bounds state.preset balance validator.effective_balance
  let whole = balance - balance % state.preset.effective_balance_increment
  done (if changes then record validator { effective_balance = min whole state.preset.max_effective_balance } else validator)

-- process_effective_balance_updates(state)
unfoldable pub process_effective_balance_updates : PlainState → Outcome PlainState
process_effective_balance_updates state = do
  validators ← checked_map (updated_validator state) (validator_indices state)
  done (record state { validators = validators })
