-- What a step for one validator keeps of the registry, where a change of that validator keeps it.
use Rattle.std.proofs.Common.{◌≡◌, ◌∙◌, ℕ, ◌+◌, not, ◌==◌, List, drop, Some, slice_get, slice_set, refl, subst, inl, inr}
use Rattle.bc_words.specs.Outcome.{done, checked_add}
use Rattle.bc_preset.specs.declared.configuration.ConfigValues.{ConfigValues}
use Rattle.beacon_types.specs.declared.validator.Validator.{Validator}
use Rattle.balance_totals.proofs.LeftOf.{set_behind}
use Rattle.spec_state.specs.declared.plain.PlainState.{PlainState}
use Rattle.spec_state.specs.Constants.{far_future_epoch}
use Rattle.spec_state.specs.Predicates.{is_eligible_for_activation_queue}
use Rattle.spec_state.specs.Accessors.{get_current_epoch}
use Rattle.spec_blocks.specs.Checks.{item_at}
use Rattle.spec_blocks.specs.InitiateValidatorExit.{exit_queue_epoch, initiate_validator_exit}
use Rattle.spec_blocks.proofs.Done.{on_the_way, chosen, same_value, item_is}
use Rattle.spec_epochs.specs.ProcessRegistryUpdates.{with_eligibility, eligibility_and_ejection}

module _ {A : Type 0} (seen : List Validator → A) (index : ℕ)
    (changed : (vs : List Validator) (old new : Validator) → slice_get vs index ≡ Some old → new.effective_balance ≡ old.effective_balance → seen (slice_set vs index new) ≡ seen vs) where
  abbrev Keeps : PlainState → PlainState → Type 0
  Keeps s t = seen t.validators ≡ seen s.validators

  waiting_keeps : (s : PlainState) (v : Validator) → slice_get s.validators index ≡ Some v → Keeps s (with_eligibility s index v)
  unfolding with_eligibility
  waiting_keeps s v here =
      let waiting : Validator = record v { activation_eligibility_epoch = get_current_epoch s + 1 } in
      elim (chosen (is_eligible_for_activation_queue s.preset v) (record s { validators = slice_set s.validators index waiting }) s _ refl) as (λ _. Keeps s (with_eligibility s index v)) [
        | inl waits ↦ subst (Keeps s) waits.1 (changed s.validators v waiting here refl)
        | inr other ↦ subst (Keeps s) other.1 refl
      ]

  exit_keeps : (s t : PlainState) (config : ConfigValues) → initiate_validator_exit s index config ≡ done t → Keeps s t
  unfolding initiate_validator_exit
  exit_keeps s t config is =
      let found = on_the_way (item_at s.validators index) _ t is in
      elim (chosen (not (found.value.exit_epoch == far_future_epoch)) _ _ _ found.then_done) [
        | inl stays ↦ subst (Keeps s) (same_value s t stays.1) refl
        | inr leaves ↦
            let at = on_the_way (exit_queue_epoch s config) _ t leaves.1 in
            let withdrawable = on_the_way (checked_add at.value config.min_validator_withdrawability_delay) _ t at.then_done in
            let leaving : Validator = record found.value { exit_epoch = at.value; withdrawable_epoch = withdrawable.value } in
            subst (Keeps s) (same_value (record s { validators = slice_set s.validators index leaving }) t withdrawable.then_done)
            (changed s.validators found.value leaving (item_is s.validators index found.value found.first) refl)
      ]

  pub step_keeps : (config : ConfigValues) (s t : PlainState) → eligibility_and_ejection config s index ≡ done t → seen t.validators ≡ seen s.validators
  unfolding eligibility_and_ejection
  step_keeps config s t is =
      let found = on_the_way (item_at s.validators index) _ t is in
      let waiting = with_eligibility s index found.value in
      let waited = waiting_keeps s found.value (item_is s.validators index found.value found.first) in
      elim (chosen _ (initiate_validator_exit waiting index config) (done waiting) _ found.then_done) [
        | inl leaves ↦ exit_keeps waiting t config leaves.1 ∙ waited
        | inr stays ↦ subst (Keeps s) (same_value waiting t stays.1) waited
      ]

-- the validators behind it
pub step_leaves : (config : ConfigValues) (s t : PlainState) (index : ℕ) → eligibility_and_ejection config s index ≡ done t → drop (index + 1) t.validators ≡ drop (index + 1) s.validators
step_leaves config s t index is = step_keeps (drop (index + 1)) index (λ vs old new here same. set_behind vs index new) config s t is
