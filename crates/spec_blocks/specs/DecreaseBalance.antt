-- decrease_balance (beacon-chain.md, "Beacon state mutators").
use Rattle.std.specs.Prelude.{ℕ, ◌-◌, slice_set}
use Rattle.bc_words.specs.Outcome.{Outcome, done, ◌>>=◌}
use Rattle.spec_state.specs.declared.plain.PlainState.{PlainState}
use Rattle.spec_blocks.specs.Checks.{item_at}

-- the balance of a validator falls, to 0 where it is less than the difference
unfoldable pub decrease_balance : PlainState → ℕ → ℕ → Outcome PlainState
decrease_balance state index delta = do
  balance ← item_at state.balances index
  done (record state { balances = slice_set state.balances index (balance - delta) })
