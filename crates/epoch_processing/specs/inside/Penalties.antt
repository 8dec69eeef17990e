-- The last part of process_slashings.
use Rattle.std.specs.Prelude.{ℕ}
use Rattle.bc_words.specs.Outcome.{Outcome, done, ◌>>=◌}
use Rattle.spec_state.specs.declared.plain.PlainState.{PlainState}
use Rattle.spec_epochs.specs.Each.{checked_map, validator_indices}
use Rattle.spec_epochs.specs.ProcessSlashings.{penalized_balance}

-- the state with each balance without its penalty
unfoldable pub penalized : PlainState → ℕ → ℕ → Outcome PlainState
penalized state adjusted_total_slashing_balance total_balance = do
  balances ← checked_map (penalized_balance state adjusted_total_slashing_balance total_balance) (validator_indices state)
  done (record state { balances = balances })
