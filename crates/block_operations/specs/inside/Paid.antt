-- What a slashing takes and gives, behind the mark.
use Rattle.std.specs.Prelude.{ℕ, ◌/◌}
use Rattle.bc_words.specs.Outcome.{Outcome, ◌>>=◌, checked_sub}
use Rattle.spec_state.specs.declared.plain.PlainState.{PlainState}
use Rattle.spec_blocks.specs.IncreaseBalance.{increase_balance}
use Rattle.spec_blocks.specs.DecreaseBalance.{decrease_balance}

-- the validator loses a part of its effective balance, and the proposer gains its own reward and then the rest of the
-- whistleblower's
unfoldable pub paid : PlainState → ℕ → ℕ → ℕ → Outcome PlainState
paid state slashed_index proposer effective_balance = do
  lowered ← decrease_balance state slashed_index (effective_balance / state.preset.min_slashing_penalty_quotient)
  let whistleblower_reward = effective_balance / state.preset.whistleblower_reward_quotient
  let proposer_reward = whistleblower_reward / state.preset.proposer_reward_quotient
  rewarded ← increase_balance lowered proposer proposer_reward
  rest ← checked_sub whistleblower_reward proposer_reward
  increase_balance rewarded proposer rest
