-- The registry's updates leave who was active in the current and the previous epoch: activations and exits come later.
use Rattle.std.proofs.Common.{◌≡◌, ◌∙◌, ℕ, suc, ◌+◌, ◌<◌, ◌≤◌, Bool, true, false, ◌&&◌, not, ◌==◌, leb, if◌then◌else◌, List, [], ◌∷◌, Some, length, map, slice_get, slice_set, refl, sym, ap, subst, arith, inl, inr}
use Rattle.std.specs.List.{enumerate_from}
use Rattle.std.proofs.lemmas.Bool.{false≢true, eqb-true, not-false}
use Rattle.std.proofs.lemmas.List.{length-set}
use Rattle.std.proofs.lemmas.List.FromFn.{length-enumerate_from}
use Rattle.bc_words.specs.Outcome.{done, checked_add}
use Rattle.bc_preset.specs.declared.configuration.ConfigValues.{ConfigValues}
use Rattle.beacon_types.specs.declared.validator.Validator.{Validator}
use Rattle.spec_state.specs.declared.plain.PlainState.{PlainState}
use Rattle.spec_state.specs.Constants.{far_future_epoch}
use Rattle.spec_state.specs.Misc.{compute_activation_exit_epoch}
use Rattle.spec_state.specs.Predicates.{is_active_validator, is_eligible_for_activation_queue, is_eligible_for_activation}
use Rattle.spec_state.specs.Accessors.{get_current_epoch, indices_from}
use Rattle.spec_blocks.specs.Checks.{item_at, each_of}
use Rattle.spec_blocks.specs.InitiateValidatorExit.{initiate_validator_exit, exit_queue_epoch}
use Rattle.spec_blocks.proofs.Done.{on_the_way, chosen, same_value, item_is}
use Rattle.spec_blocks.proofs.Sound.{indices_of_changed}
use Rattle.spec_blocks.proofs.Registry.{still_active, not_yet}
use Rattle.spec_blocks.proofs.Exits.{earliest_later, queue_later}
use Rattle.spec_blocks.proofs.Each.{each_keeps}
use Rattle.spec_epochs.specs.Each.{validator_indices}
use Rattle.spec_epochs.specs.ProcessRegistryUpdates.{process_registry_updates, eligibility_and_ejection, with_eligibility, with_activations, is_dequeued}
use Rattle.spec_epochs.proofs.SoundWithin.{Leaves, leaves_all, leaves_both, same_epoch}
use Rattle.spec_epochs.proofs.SoundParts.{with_registry}

-- one validator that changes, and is active as before
changed_leaves : (s : PlainState) (index : ℕ) (old new : Validator) → slice_get s.validators index ≡ Some old
    → ((epoch : ℕ) → epoch ≤ get_current_epoch s → is_active_validator new epoch ≡ is_active_validator old epoch)
    → Leaves s (record s { validators = slice_set s.validators index new })
changed_leaves s index old new is same =
    with_registry s (slice_set s.validators index new) (length-set s.validators index new)
    (λ epoch low. indices_of_changed (λ v. is_active_validator v epoch) 0 index s.validators old new is (same epoch low))

-- the exit of a validator
exit_leaves : (s t : PlainState) (index : ℕ) (config : ConfigValues) → initiate_validator_exit s index config ≡ done t → get_current_epoch s < far_future_epoch → Leaves s t
unfolding initiate_validator_exit
exit_leaves s t index config is before =
    let validator = on_the_way (item_at s.validators index) _ t is in
    elim (chosen (not (validator.value.exit_epoch == far_future_epoch)) _ _ _ validator.then_done) [
      | inl leaving ↦ subst (Leaves s) (same_value s t leaving.1) (leaves_all s)
      | inr stays ↦
          let exit = on_the_way (exit_queue_epoch s config) _ t stays.1 in
          let withdrawable = on_the_way (checked_add exit.value config.min_validator_withdrawability_delay) _ t exit.then_done in
          let later = queue_later s config exit.value exit.first in
          let v = validator.value in
          let far = eqb-true v.exit_epoch far_future_epoch (not-false _ stays.0) in
          subst (Leaves s) (same_value _ t withdrawable.then_done)
          (changed_leaves s index v (record v { exit_epoch = exit.value; withdrawable_epoch = withdrawable.value }) (item_is s.validators index v validator.first)
          (λ epoch low. still_active v exit.value withdrawable.value (get_current_epoch s) epoch far later before low))
    ]

-- one who begins to wait is active as before
eligibility_leaves : (s : PlainState) (index : ℕ) (v : Validator) → slice_get s.validators index ≡ Some v → Leaves s (with_eligibility s index v)
unfolding with_eligibility is_active_validator
eligibility_leaves s index v is =
    let waiting : Validator = record v { activation_eligibility_epoch = get_current_epoch s + 1 } in
    elim (chosen (is_eligible_for_activation_queue s.preset v) (record s { validators = slice_set s.validators index waiting }) s _ refl) [
      | inl waits ↦ subst (Leaves s) waits.1 (changed_leaves s index v waiting is (λ epoch low. refl))
      | inr other ↦ subst (Leaves s) other.1 (leaves_all s)
    ]

ejection_leaves : (config : ConfigValues) (s t : PlainState) (index : ℕ) → eligibility_and_ejection config s index ≡ done t → get_current_epoch s < far_future_epoch → Leaves s t
unfolding eligibility_and_ejection
ejection_leaves config s t index is before =
    let validator = on_the_way (item_at s.validators index) _ t is in
    let waiting = with_eligibility s index validator.value in
    let first = eligibility_leaves s index validator.value (item_is s.validators index validator.value validator.first) in
    let same = same_epoch s waiting first in
    elim (chosen (is_active_validator validator.value (get_current_epoch s) && leb validator.value.effective_balance config.ejection_balance) _ _ _ validator.then_done) [
      | inl goes ↦ leaves_both s waiting t first (exit_leaves waiting t index config goes.1 (omega arith))
      | inr stays ↦ subst (Leaves s) (same_value waiting t stays.1) first
    ]

-- all of them
ejections_leave : (config : ConfigValues) (s t : PlainState) (indices : List ℕ) → each_of (eligibility_and_ejection config) s indices ≡ done t → get_current_epoch s < far_future_epoch → Leaves s t
ejections_leave config s t indices is before =
    each_keeps (Leaves s) (eligibility_and_ejection config)
    (λ x y index step first. leaves_both s x y first (let same = same_epoch s x first in ejection_leaves config x y index step (omega arith)))
    indices s t is (leaves_all s)

-- the list of those that pass a test, where each passes as before
indices_of_mapped : (test : Validator → Bool) (change : ℕ × Validator → Validator) → ((index : ℕ) (v : Validator) → test (change (index, v)) ≡ test v)
    → (first from : ℕ) (vs : List Validator) → indices_from test first (map change (enumerate_from from vs)) ≡ indices_from test first vs
unfolding indices_from
indices_of_mapped test change same first from [] = refl
indices_of_mapped test change same first from (v ∷ vs) =
    let rest = indices_of_mapped test change same (suc first) (from + 1) vs in
    let others : List Validator = map change (enumerate_from (from + 1) vs) in
    ap (λ (passes : Bool). if passes then first ∷ indices_from test (suc first) others else indices_from test (suc first) others) (same from v)
    ∙ ap (λ (list : List ℕ). if test v then first ∷ list else list) rest

both_hold : (a b : Bool) → a && b ≡ true → (a ≡ true) × (b ≡ true)
both_hold true true is = (refl, refl)
both_hold true false is = absurd (false≢true is)
both_hold false b is = absurd (false≢true is)

waits_for : (s : PlainState) (config : ConfigValues) (index : ℕ) (v : Validator) → is_dequeued s config (index, v) ≡ true → v.activation_epoch ≡ far_future_epoch
unfolding is_dequeued is_eligible_for_activation
waits_for s config index v is =
    let eligible = (both_hold _ _ is).0 in
    eqb-true v.activation_epoch far_future_epoch (both_hold _ _ eligible).1

-- one who is let in later isn't active before
activated_later : (s : PlainState) (config : ConfigValues) (at epoch index : ℕ) (v : Validator) → epoch < at → epoch < far_future_epoch
    → is_active_validator (if is_dequeued s config (index, v) then record v { activation_epoch = at } else v) epoch ≡ is_active_validator v epoch
activated_later s config at epoch index v later before =
    let new : Validator = record v { activation_epoch = at } in
    elim (chosen (is_dequeued s config (index, v)) new v _ refl) [
      | inl enters ↦
          let far = waits_for s config index v enters.0 in
          ap (λ (w : Validator). is_active_validator w epoch) (sym enters.1) ∙ (not_yet new epoch later ∙ sym (not_yet v epoch (omega arith)))
      | inr stays ↦ ap (λ (w : Validator). is_active_validator w epoch) (sym stays.1)
    ]

length-map_of : {A B : Type 0} (f : A → B) (xs : List A) → length (map f xs) ≡ length xs
length-map_of f [] = refl
length-map_of f (x ∷ xs) = ap suc (length-map_of f xs)

activations_leave : (s : PlainState) (config : ConfigValues) (at : ℕ) → get_current_epoch s < at → get_current_epoch s < far_future_epoch → Leaves s (record s { validators = with_activations s config at })
unfolding with_activations
activations_leave s config at later before =
    with_registry s (with_activations s config at)
    (length-map_of _ (enumerate_from 0 s.validators) ∙ length-enumerate_from 0 s.validators)
    (λ epoch low. indices_of_mapped (λ v. is_active_validator v epoch) _ (λ index v. activated_later s config at epoch index v (omega arith) (omega arith)) 0 0 s.validators)

-- process_registry_updates
pub registry_updates_leave : (s t : PlainState) (config : ConfigValues) → process_registry_updates s config ≡ done t → get_current_epoch s < far_future_epoch → Leaves s t
unfolding process_registry_updates
registry_updates_leave s t config is before =
    let ejected = on_the_way (each_of (eligibility_and_ejection config) s (validator_indices s)) _ t is in
    let x = ejected.value in
    let at = on_the_way (compute_activation_exit_epoch x.preset (get_current_epoch x)) _ t ejected.then_done in
    let first = ejections_leave config s x (validator_indices s) ejected.first before in
    let same = same_epoch s x first in
    leaves_both s x t first (subst (Leaves x) (same_value _ t at.then_done) (activations_leave x config at.value (earliest_later x.preset (get_current_epoch x) at.value at.first) (omega arith)))
