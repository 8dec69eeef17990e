-- A made-up step: a block is a number, which is added to the state's count of deposits.
use Rattle.std.specs.Prelude.{ℕ}
use Rattle.bc_words.specs.Outcome.{Outcome, done, checked_add, ◌>>=◌}
use Rattle.spec_state.specs.declared.plain.PlainState.{PlainState}

unfoldable pub with_deposits : PlainState → ℕ → Outcome PlainState
with_deposits state more = do
  count ← checked_add state.eth1_deposit_index more
  done (record state { eth1_deposit_index = count })
