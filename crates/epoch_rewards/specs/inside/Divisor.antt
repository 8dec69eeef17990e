-- What base rewards divide by.
use Rattle.std.specs.Prelude.{ℕ}
use Rattle.bc_words.specs.Outcome.{Outcome, done, ◌>>=◌}
use Rattle.bc_words.specs.SquareRoot.{integer_squareroot}
use Rattle.spec_state.specs.declared.plain.PlainState.{PlainState}
use Rattle.spec_state.specs.Accessors.{get_total_active_balance}

-- the square root of the total active balance
unfoldable pub divisor_of : PlainState → Outcome ℕ
divisor_of state = do
  total_balance ← get_total_active_balance state
  done (integer_squareroot total_balance)
