-- What is lost in the leak, where the attesters to the target are known: by one validator, and by all.
use Rattle.std.specs.Prelude.{ℕ, List, if◌then◌else◌, Bool, replicate, length}
use Rattle.bc_words.specs.Outcome.{Outcome, done, ◌>>=◌}
use Rattle.spec_state.specs.declared.plain.PlainState.{PlainState}
use Rattle.spec_epochs.specs.Each.{is_among, validator_indices, checked_map}
use Rattle.spec_epochs.specs.RewardHelpers.{get_eligible_validator_indices, is_in_inactivity_leak}
use Rattle.spec_epochs.specs.GetInactivityPenaltyDeltas.{inactivity_penalty}
use Rattle.spec_epochs.specs.declared.deltas.Deltas.{Deltas}

-- what a validator loses in the leak
unfoldable pub leak_penalty : PlainState → List ℕ → ℕ → Outcome ℕ
leak_penalty state target_attesters index = if is_among index (get_eligible_validator_indices state) then inactivity_penalty state target_attesters index else done 0

-- what all lose
unfoldable pub penalties_of : PlainState → Bool → List ℕ → Outcome (List ℕ)
penalties_of state leak target_attesters =
    if leak then checked_map (leak_penalty state target_attesters) (validator_indices state) else done (replicate (length state.validators) 0)

-- rewards and penalties of all
unfoldable pub leak_deltas : PlainState → List ℕ → Outcome Deltas
leak_deltas state target_attesters = do
  leak ← is_in_inactivity_leak state
  penalties ← penalties_of state leak target_attesters
  done (record { rewards = replicate (length state.validators) 0; penalties = penalties })
