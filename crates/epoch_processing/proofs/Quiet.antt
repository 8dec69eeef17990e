-- Where no validator stirs, the registry's updates leave the state as it is.
use Rattle.std.proofs.Common.{◌≡◌, ◌∙◌, ℕ, ◌+◌, ◌<◌, Bool, false, not, ◌&&◌, ◌||◌, ◌==◌, nat_lt, leb, if◌then◌else◌, List, [], ◌∷◌, length, drop, map, Option, Some, slice_get, slice_set, refl, sym, ap, ap₂, inl, inr, arith}
use Rattle.std.specs.Prelude.{count_by}
use Rattle.std.specs.List.{enumerate_from, list_any, range_with_len}
use Rattle.std.proofs.lemmas.Bool.{eqb-true, lt-leb, cases_Bool, and_left, and_right, or_parts, or_from}
use Rattle.bc_words.specs.Outcome.{Outcome, done, bind}
use Rattle.bc_preset.specs.declared.configuration.ConfigValues.{ConfigValues}
use Rattle.beacon_types.specs.declared.validator.Validator.{Validator}
use Rattle.balance_totals.proofs.LeftOf.{first_left, others_left}
use Rattle.spec_state.specs.declared.plain.PlainState.{PlainState}
use Rattle.spec_state.specs.Constants.{far_future_epoch}
use Rattle.spec_state.specs.Misc.{compute_activation_exit_epoch}
use Rattle.spec_state.specs.Predicates.{is_eligible_for_activation_queue, is_eligible_for_activation}
use Rattle.spec_state.specs.Accessors.{get_current_epoch, get_validator_churn_limit}
use Rattle.balance_totals.specs.inside.Stirring.{is_ejected, is_pending, stirs, registry_stirs}
use Rattle.spec_blocks.specs.Checks.{found, each_of}
use Rattle.spec_blocks.specs.InitiateValidatorExit.{initiate_validator_exit}
use Rattle.spec_epochs.specs.Each.{validator_indices}
use Rattle.spec_epochs.specs.ProcessRegistryUpdates.{with_eligibility, eligibility_and_ejection, activation_queue, comes_before, is_dequeued, with_activations, process_registry_updates}
use Rattle.epoch_processing.specs.inside.Exits.{earliest_exit}
use Rattle.epoch_processing.proofs.Updates.{let_in, updates_are}

-- ---- where nobody waits nobody is let in

module _ (state : PlainState) (config : ConfigValues) (epoch : ℕ) where
  stays_out : (index : ℕ) (v : Validator) → is_eligible_for_activation state v ≡ false → let_in state config epoch (index, v) ≡ v
  unfolding is_dequeued
  stays_out index v idle =
      ap (λ (b : Bool). if b && nat_lt (count_by (λ other. comes_before other (index, v)) (activation_queue state)) (get_validator_churn_limit state config) then record v { activation_epoch = epoch } else v) idle

  all_stay_out : (vs : List Validator) (index : ℕ) → list_any (is_eligible_for_activation state) vs ≡ false → map (let_in state config epoch) (enumerate_from index vs) ≡ vs
  all_stay_out [] index none = refl
  all_stay_out (v ∷ vs) index none =
      let apart = or_parts (is_eligible_for_activation state v) (list_any (is_eligible_for_activation state) vs) none in
      ap₂ (λ (w : Validator) (ws : List Validator). w ∷ ws) (stays_out index v apart.0) (all_stay_out vs (index + 1) apart.1)

  pub nobody_let_in : list_any (is_eligible_for_activation state) state.validators ≡ false → state ≡ record state { validators = with_activations state config epoch }
  unfolding with_activations
  nobody_let_in none = ap (λ (vs : List Validator). record state { validators = vs }) (sym (all_stay_out state.validators 0 none))

-- ---- one that doesn't stir

module _ (state : PlainState) (config : ConfigValues) where
  abbrev stirs_here : Validator → Bool
  stirs_here v = stirs state.preset config (get_current_epoch state) v

  abbrev rest_of_step : ℕ → Validator → Outcome PlainState
  rest_of_step index v =
      if is_ejected config (get_current_epoch state) v then initiate_validator_exit (with_eligibility state index v) index config else done (with_eligibility state index v)

  step_stays : (index : ℕ) (v : Validator) → slice_get state.validators index ≡ Some v → stirs_here v ≡ false → eligibility_and_ejection config state index ≡ done state
  unfolding eligibility_and_ejection with_eligibility stirs is_ejected
  step_stays index v here still =
      let apart = or_parts (is_eligible_for_activation_queue state.preset v || is_ejected config (get_current_epoch state) v) (is_pending v) still in
      let first = or_parts (is_eligible_for_activation_queue state.preset v) (is_ejected config (get_current_epoch state) v) apart.0 in
      let waiting : Validator = record v { activation_eligibility_epoch = get_current_epoch state + 1 } in
      ap (λ (o : Option Validator). bind (found o) (rest_of_step index)) here
      ∙ (ap (λ (leaves : Bool). if leaves then initiate_validator_exit (with_eligibility state index v) index config else done (with_eligibility state index v)) first.1
      ∙ ap (λ (waits : Bool). done (if waits then record state { validators = slice_set state.validators index waiting } else state)) first.0)

  waits_not : (v : Validator) → state.finalized_checkpoint.epoch < far_future_epoch → stirs_here v ≡ false → is_eligible_for_activation state v ≡ false
  unfolding is_eligible_for_activation stirs is_pending
  waits_not v final still =
      let pending = or_parts (is_eligible_for_activation_queue state.preset v || is_ejected config (get_current_epoch state) v) (is_pending v) still in
      elim (cases_Bool (v.activation_eligibility_epoch == far_future_epoch)) [
        | inl unset ↦
            let far = eqb-true v.activation_eligibility_epoch far_future_epoch unset in
            and_left (leb v.activation_eligibility_epoch state.finalized_checkpoint.epoch) (v.activation_epoch == far_future_epoch)
            (lt-leb v.activation_eligibility_epoch state.finalized_checkpoint.epoch (omega (arith, far, final)))
        | inr set ↦
            and_right (leb v.activation_eligibility_epoch state.finalized_checkpoint.epoch) (v.activation_epoch == far_future_epoch)
            (sym (ap (λ (b : Bool). not b && (v.activation_epoch == far_future_epoch)) set) ∙ pending.1)
      ]

  -- ---- where none does

  steps_stay : (left : List Validator) (index : ℕ) → left ≡ drop index state.validators → list_any stirs_here left ≡ false
      → each_of (eligibility_and_ejection config) state (range_with_len index (length left)) ≡ done state
  unfolding each_of
  steps_stay [] index here none = refl
  steps_stay (v ∷ left) index here none =
      let apart = or_parts (stirs_here v) (list_any stirs_here left) none in
      ap (λ o. bind o (λ next. each_of (eligibility_and_ejection config) next (range_with_len (index + 1) (length left)))) (step_stays index v (first_left state.validators index v left here) apart.0)
      ∙ steps_stay left (index + 1) (others_left state.validators index v left here) apart.1

  none_waits : (vs : List Validator) → state.finalized_checkpoint.epoch < far_future_epoch → list_any stirs_here vs ≡ false → list_any (is_eligible_for_activation state) vs ≡ false
  none_waits [] final none = refl
  none_waits (v ∷ vs) final none =
      let apart = or_parts (stirs_here v) (list_any stirs_here vs) none in
      or_from (is_eligible_for_activation state v) (list_any (is_eligible_for_activation state) vs) (waits_not v final apart.0) (none_waits vs final apart.1)

  pub nothing_changes : registry_stirs state config ≡ false → state.finalized_checkpoint.epoch < far_future_epoch → compute_activation_exit_epoch state.preset (get_current_epoch state) ≡ done (earliest_exit state)
      → process_registry_updates state config ≡ done state
  unfolding registry_stirs validator_indices
  nothing_changes none final comes =
      updates_are config state state state (earliest_exit state) (steps_stay state.validators 0 refl none) comes (nobody_let_in state config (earliest_exit state) (none_waits state.validators final none))
