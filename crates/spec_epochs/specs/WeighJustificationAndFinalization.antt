-- weigh_justification_and_finalization (beacon-chain.md, "Justification and finalization").
use Rattle.std.specs.Prelude.{ℕ}
use Rattle.bc_words.specs.Outcome.{Outcome, done, ◌>>=◌}
use Rattle.spec_state.specs.declared.plain.PlainState.{PlainState}
use Rattle.spec_state.specs.Accessors.{get_current_epoch, get_previous_epoch, get_block_root}
use Rattle.spec_epochs.specs.declared.justification.Justification.{Justification}
use Rattle.spec_epochs.specs.Weigh.{weigh}

-- the bits and checkpoints of a state
unfoldable pub justification_of : PlainState → Justification
justification_of state = record {
  bits = state.justification_bits;
  previous = state.previous_justified_checkpoint;
  current = state.current_justified_checkpoint;
  finalized = state.finalized_checkpoint;
}

-- the state with other bits and checkpoints
unfoldable pub with_justification : PlainState → Justification → PlainState
with_justification state j = record state {
  justification_bits = j.bits;
  previous_justified_checkpoint = j.previous;
  current_justified_checkpoint = j.current;
  finalized_checkpoint = j.finalized;
}

-- weigh_justification_and_finalization(state, total_active_balance, previous_epoch_target_balance,
-- current_epoch_target_balance): what it does to bits and checkpoints is `weigh`
unfoldable pub weigh_justification_and_finalization : PlainState → ℕ → ℕ → ℕ → Outcome PlainState
weigh_justification_and_finalization state total_active_balance previous_epoch_target_balance current_epoch_target_balance = do
  let previous_root = get_block_root state (get_previous_epoch state)
  let current_root = get_block_root state (get_current_epoch state)
  weighed ← weigh (justification_of state) (get_current_epoch state) previous_root current_root total_active_balance previous_epoch_target_balance current_epoch_target_balance
  done (with_justification state weighed)
