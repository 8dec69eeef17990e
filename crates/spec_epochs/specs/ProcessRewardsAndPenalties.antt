-- process_rewards_and_penalties (beacon-chain.md, "Rewards and penalties").
use Rattle.std.specs.Prelude.{ℕ, ◌-◌, slice_index, ◌==◌, if◌then◌else◌}
use Rattle.bc_words.specs.Outcome.{Outcome, done, ◌>>=◌, checked_add}
use Rattle.spec_state.specs.declared.plain.PlainState.{PlainState}
use Rattle.spec_state.specs.Accessors.{get_current_epoch}
use Rattle.spec_blocks.specs.Checks.{item_at}
use Rattle.spec_epochs.specs.declared.deltas.Deltas.{Deltas}
use Rattle.spec_epochs.specs.Each.{validator_indices, checked_map}
use Rattle.spec_epochs.specs.GetAttestationDeltas.{get_attestation_deltas}

-- the balance of a validator after its rewards were added and then its penalties taken, which leaves at least 0
unfoldable pub rewarded_balance : PlainState → Deltas → ℕ → Outcome ℕ
rewarded_balance state deltas index = do
  balance ← item_at state.balances index
  increased ← checked_add balance (slice_index deltas.rewards index)
  done (increased - slice_index deltas.penalties index)

-- process_rewards_and_penalties(state): nothing in the first epoch
unfoldable pub process_rewards_and_penalties : PlainState → Outcome PlainState
process_rewards_and_penalties state = if get_current_epoch state == 0 then done state else do
  deltas ← get_attestation_deltas state
  balances ← checked_map (rewarded_balance state deltas) (validator_indices state)
  done (record state { balances = balances })
