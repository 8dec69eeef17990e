-- process_registry_updates (beacon-chain.md, "Registry updates").
use Rattle.std.specs.Prelude.{ℕ, ◌+◌, Bool, ◌&&◌, ◌||◌, List, map, filter, count_by, slice_set, nat_lt, leb, ◌==◌, if◌then◌else◌}
use Rattle.std.specs.List.{enumerate_from}
use Rattle.bc_words.specs.Outcome.{Outcome, done, ◌>>=◌}
use Rattle.bc_preset.specs.declared.configuration.ConfigValues.{ConfigValues}
use Rattle.beacon_types.specs.declared.validator.Validator.{Validator}
use Rattle.spec_state.specs.declared.plain.PlainState.{PlainState}
use Rattle.spec_state.specs.Misc.{compute_activation_exit_epoch}
use Rattle.spec_state.specs.Predicates.{is_active_validator, is_eligible_for_activation_queue, is_eligible_for_activation}
use Rattle.spec_state.specs.Accessors.{get_current_epoch, get_validator_churn_limit}
use Rattle.spec_blocks.specs.Checks.{item_at, each_of}
use Rattle.spec_blocks.specs.InitiateValidatorExit.{initiate_validator_exit}
use Rattle.spec_epochs.specs.Each.{validator_indices}

-- a validator that may wait for its activation does so from the next epoch on
unfoldable pub with_eligibility : PlainState → ℕ → Validator → PlainState
with_eligibility state index validator =
    if is_eligible_for_activation_queue state.preset validator
    then record state { validators = slice_set state.validators index (record validator { activation_eligibility_epoch = get_current_epoch state + 1 }) }
    else state

-- eligibility and ejection of one validator
unfoldable pub eligibility_and_ejection : ConfigValues → PlainState → ℕ → Outcome PlainState
eligibility_and_ejection config state index = do
  validator ← item_at state.validators index
  let waiting = with_eligibility state index validator
  let leaves = is_active_validator validator (get_current_epoch state) && leb validator.effective_balance config.ejection_balance
  if leaves then initiate_validator_exit waiting index config else done waiting

-- the validators that wait for their activation, each with its index
unfoldable pub activation_queue : PlainState → List (ℕ × Validator)
activation_queue state = filter (λ entry. is_eligible_for_activation state entry.1) (enumerate_from 0 state.validators)

-- the order of the queue: by the epoch from which a validator waits, and then by index
unfoldable pub comes_before : ℕ × Validator → ℕ × Validator → Bool
comes_before a b =
    nat_lt a.1.activation_eligibility_epoch b.1.activation_eligibility_epoch
    || ((a.1.activation_eligibility_epoch == b.1.activation_eligibility_epoch) && nat_lt a.0 b.0)

-- whether a validator is let in: it waits, and fewer than the churn limit come before it
unfoldable pub is_dequeued : PlainState → ConfigValues → ℕ × Validator → Bool
is_dequeued state config entry =
    is_eligible_for_activation state entry.1
    && nat_lt (count_by (λ other. comes_before other entry) (activation_queue state)) (get_validator_churn_limit state config)

-- those that are let in are active from an epoch on
unfoldable pub with_activations : PlainState → ConfigValues → ℕ → List Validator
with_activations state config epoch =
    map (λ entry. if is_dequeued state config entry then record entry.1 { activation_epoch = epoch } else entry.1) (enumerate_from 0 state.validators)

-- process_registry_updates(state): eligibility and ejections validator by validator, then as many activations as the
-- churn limit
unfoldable pub process_registry_updates : PlainState → ConfigValues → Outcome PlainState
process_registry_updates state config = do
  ejected ← each_of (eligibility_and_ejection config) state (validator_indices state)
  epoch ← compute_activation_exit_epoch ejected.preset (get_current_epoch ejected)
  done (record ejected { validators = with_activations ejected config epoch })
