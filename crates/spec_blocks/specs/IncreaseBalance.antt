-- increase_balance (beacon-chain.md, "Beacon state mutators").
use Rattle.std.specs.Prelude.{ℕ, slice_set}
use Rattle.bc_words.specs.Outcome.{Outcome, done, ◌>>=◌, checked_add}
use Rattle.spec_state.specs.declared.plain.PlainState.{PlainState}
use Rattle.spec_blocks.specs.Checks.{item_at}

-- the balance of a validator grows
unfoldable pub increase_balance : PlainState → ℕ → ℕ → Outcome PlainState
increase_balance state index delta = do
  balance ← item_at state.balances index
  more ← checked_add balance delta
  done (record state { balances = slice_set state.balances index more })
