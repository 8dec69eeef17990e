-- process_slashings (beacon-chain.md, "Slashings"). Epochs end long before 2 ^ 64, so their sums are plain.
use Rattle.std.specs.Prelude.{ℕ, ◌+◌, ◌-◌, ◌/◌, min, ◌&&◌, not, ◌==◌, if◌then◌else◌}
use Rattle.bc_words.specs.Outcome.{Outcome, done, ◌>>=◌, checked_mul, checked_sum}
use Rattle.spec_state.specs.declared.plain.PlainState.{PlainState}
use Rattle.spec_state.specs.Accessors.{get_current_epoch, get_total_active_balance}
use Rattle.spec_blocks.specs.Checks.{item_at}
use Rattle.spec_epochs.specs.Each.{validator_indices, checked_map}

-- the balance of a validator without its penalty, which half way to its withdrawal a slashed one pays
unfoldable pub penalized_balance : PlainState → ℕ → ℕ → ℕ → Outcome ℕ
penalized_balance state adjusted_total_slashing_balance total_balance index = do
  validator ← item_at state.validators index
  balance ← item_at state.balances index
  let increment = state.preset.effective_balance_increment
  let pays = validator.slashed && (get_current_epoch state + state.preset.epochs_per_slashings_vector / 2 == validator.withdrawable_epoch)
  if not pays then done balance else do
    penalty_numerator ← checked_mul (validator.effective_balance / increment) adjusted_total_slashing_balance
    penalty ← checked_mul (penalty_numerator / total_balance) increment
    done (balance - penalty)

-- process_slashings(state)
unfoldable pub process_slashings : PlainState → Outcome PlainState
process_slashings state = do
  total_balance ← get_total_active_balance state
  slashed ← checked_sum state.slashings
  multiplied ← checked_mul slashed state.preset.proportional_slashing_multiplier
  let adjusted_total_slashing_balance = min multiplied total_balance
  balances ← checked_map (penalized_balance state adjusted_total_slashing_balance total_balance) (validator_indices state)
  done (record state { balances = balances })
