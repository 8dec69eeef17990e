-- get_base_reward (beacon-chain.md, "Rewards and penalties", "Helpers").
use Rattle.std.specs.Prelude.{ℕ, ◌/◌}
use Rattle.bc_words.specs.Outcome.{Outcome, done, ◌>>=◌, checked_mul}
use Rattle.bc_words.specs.SquareRoot.{integer_squareroot}
use Rattle.spec_state.specs.declared.plain.PlainState.{PlainState}
use Rattle.spec_state.specs.Constants.{base_rewards_per_epoch}
use Rattle.spec_state.specs.Accessors.{get_total_active_balance}
use Rattle.spec_blocks.specs.Checks.{item_at}

-- get_base_reward(state, index)
unfoldable pub get_base_reward : PlainState → ℕ → Outcome ℕ
get_base_reward state index = do
  total_balance ← get_total_active_balance state
  validator ← item_at state.validators index
  weighed ← checked_mul validator.effective_balance state.preset.base_reward_factor
  done (weighed / integer_squareroot total_balance / base_rewards_per_epoch)
