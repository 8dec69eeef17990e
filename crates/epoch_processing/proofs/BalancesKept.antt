-- The registry's updates keep effective balances.
use Rattle.std.proofs.Common.{◌≡◌, ◌∙◌, ℕ, zero, suc, ◌+◌, Bool, true, false, if◌then◌else◌, List, [], ◌∷◌, map, Option, Some, None, slice_get, slice_set, refl, sym, ap, ap₂}
use Rattle.std.specs.List.{enumerate_from}
use Rattle.bc_words.specs.Outcome.{done}
use Rattle.bc_preset.specs.declared.configuration.ConfigValues.{ConfigValues}
use Rattle.beacon_types.specs.declared.validator.Validator.{Validator}
use Rattle.spec_state.specs.declared.plain.PlainState.{PlainState}
use Rattle.spec_state.specs.Misc.{compute_activation_exit_epoch}
use Rattle.spec_state.specs.Accessors.{get_current_epoch}
use Rattle.balance_totals.specs.inside.Stakes.{effective_balances}
use Rattle.spec_blocks.specs.Checks.{each_of}
use Rattle.spec_blocks.proofs.Done.{on_the_way, same_value}
use Rattle.spec_epochs.specs.Each.{validator_indices}
use Rattle.spec_epochs.specs.ProcessRegistryUpdates.{eligibility_and_ejection, is_dequeued, with_activations, process_registry_updates}
use Rattle.epoch_processing.proofs.Steps.{step_keeps}
use Rattle.epoch_processing.proofs.Updates.{let_in}

abbrev balance_or : ℕ → Option Validator → ℕ
balance_or n None = n
balance_or n (Some v) = v.effective_balance

balances_with : (index : ℕ) (vs : List Validator) (old new : Validator) → slice_get vs index ≡ Some old → new.effective_balance ≡ old.effective_balance → effective_balances (slice_set vs index new) ≡ effective_balances vs
unfolding effective_balances
balances_with index [] old new here same = refl
balances_with zero (v ∷ vs) old new here same = ap (λ (n : ℕ). n ∷ effective_balances vs) (same ∙ sym (ap (balance_or 0) here))
balances_with (suc index) (v ∷ vs) old new here same = ap (λ (ns : List ℕ). v.effective_balance ∷ ns) (balances_with index vs old new here same)

steps_keep : (config : ConfigValues) (indices : List ℕ) (s t : PlainState) → each_of (eligibility_and_ejection config) s indices ≡ done t → effective_balances t.validators ≡ effective_balances s.validators
unfolding each_of
steps_keep config [] s t is = ap (λ (u : PlainState). effective_balances u.validators) (sym (same_value s t is))
steps_keep config (index ∷ indices) s t is =
    let step = on_the_way (eligibility_and_ejection config s index) _ t is in
    steps_keep config indices step.value t step.then_done ∙ step_keeps effective_balances index (balances_with index) config s step.value step.first

same_balance : (dequeued : Bool) (epoch : ℕ) (v : Validator) → (if dequeued then record v { activation_epoch = epoch } else v).effective_balance ≡ v.effective_balance
same_balance true epoch v = refl
same_balance false epoch v = refl

activations_keep : (state : PlainState) (config : ConfigValues) (epoch : ℕ) (vs : List Validator) (index : ℕ) → effective_balances (map (let_in state config epoch) (enumerate_from index vs)) ≡ effective_balances vs
unfolding effective_balances
activations_keep state config epoch [] index = refl
activations_keep state config epoch (v ∷ vs) index =
    ap₂ (λ (n : ℕ) (ns : List ℕ). n ∷ ns) (same_balance (is_dequeued state config (index, v)) epoch v) (activations_keep state config epoch vs (index + 1))

pub keeps_effective_balances : (s t : PlainState) (config : ConfigValues) → process_registry_updates s config ≡ done t → effective_balances t.validators ≡ effective_balances s.validators
unfolding process_registry_updates with_activations
keeps_effective_balances s t config is =
    let ejected = on_the_way (each_of (eligibility_and_ejection config) s (validator_indices s)) _ t is in
    let epoch = on_the_way (compute_activation_exit_epoch ejected.value.preset (get_current_epoch ejected.value)) _ t ejected.then_done in
    ap (λ (u : PlainState). effective_balances u.validators) (sym (same_value (record ejected.value { validators = with_activations ejected.value config epoch.value }) t epoch.then_done))
    ∙ (activations_keep ejected.value config epoch.value ejected.value.validators 0 ∙ steps_keep config (validator_indices s) s ejected.value ejected.first)
