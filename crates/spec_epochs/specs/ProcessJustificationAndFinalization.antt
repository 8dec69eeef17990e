-- process_justification_and_finalization (beacon-chain.md, "Justification and finalization").
use Rattle.std.specs.Prelude.{leb, if◌then◌else◌}
use Rattle.bc_words.specs.Outcome.{Outcome, done, ◌>>=◌}
use Rattle.spec_state.specs.declared.plain.PlainState.{PlainState}
use Rattle.spec_state.specs.Accessors.{get_current_epoch, get_previous_epoch, get_total_active_balance}
use Rattle.spec_epochs.specs.Helpers.{get_matching_target_attestations, get_attesting_balance}
use Rattle.spec_epochs.specs.WeighJustificationAndFinalization.{weigh_justification_and_finalization}

-- process_justification_and_finalization(state): nothing in the first two epochs
unfoldable pub process_justification_and_finalization : PlainState → Outcome PlainState
process_justification_and_finalization state = if leb (get_current_epoch state) 1 then done state else do
  let previous_attestations = get_matching_target_attestations state (get_previous_epoch state)
  let current_attestations = get_matching_target_attestations state (get_current_epoch state)
  total_active_balance ← get_total_active_balance state
  previous_target_balance ← get_attesting_balance state previous_attestations
  current_target_balance ← get_attesting_balance state current_attestations
  weigh_justification_and_finalization state total_active_balance previous_target_balance current_target_balance
