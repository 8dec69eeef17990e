-- An epoch's processing leaves the preset and the slot of a state.
use Rattle.std.proofs.Common.{◌≡◌, ◌∙◌, ℕ, ◌+◌, ◌&&◌, leb, slice_set, refl, subst, arith, inl, inr}
use Rattle.bc_words.specs.Outcome.{done}
use Rattle.bc_preset.specs.declared.presets.Preset.{Preset}
use Rattle.bc_preset.specs.declared.configuration.ConfigValues.{ConfigValues}
use Rattle.beacon_types.specs.declared.validator.Validator.{Validator}
use Rattle.spec_state.specs.declared.plain.PlainState.{PlainState}
use Rattle.spec_state.specs.Misc.{compute_activation_exit_epoch}
use Rattle.spec_state.specs.Predicates.{is_active_validator, is_eligible_for_activation_queue}
use Rattle.spec_state.specs.Accessors.{get_current_epoch}
use Rattle.spec_blocks.specs.Checks.{item_at, each_of}
use Rattle.spec_blocks.proofs.Done.{on_the_way, chosen, same_value}
use Rattle.spec_blocks.proofs.Fixed.{Fixed, exit_fixed}
use Rattle.spec_blocks.proofs.Each.{each_keeps}
use Rattle.spec_epochs.specs.Each.{validator_indices}
use Rattle.spec_epochs.specs.ProcessRegistryUpdates.{process_registry_updates, eligibility_and_ejection, with_eligibility}
use Rattle.spec_epochs.specs.ProcessEth1DataReset.{process_eth1_data_reset}
use Rattle.spec_epochs.specs.ProcessSlashingsReset.{process_slashings_reset}
use Rattle.spec_epochs.specs.ProcessRandaoMixesReset.{process_randao_mixes_reset}
use Rattle.spec_epochs.specs.ProcessParticipationRecordUpdates.{process_participation_record_updates}
use Rattle.spec_epochs.specs.ProcessEpoch.{process_epoch}
use Rattle.spec_epochs.proofs.EpochParts.{parts_of}
use Rattle.spec_epochs.proofs.SoundWithin.{Leaves}
use Rattle.spec_epochs.proofs.SoundParts.{rewards_leave, slashings_leave, eth1_data_reset_leaves, effective_balances_leave, slashings_reset_leaves, historical_roots_leave}
use Rattle.spec_epochs.proofs.SoundJustification.{justification_leaves}

-- a state of another's preset and slot
pub record SamePlace (s t : PlainState) : Type 0 where
  pub preset : t.preset ≡ s.preset
  pub slot : t.slot ≡ s.slot

place_of : (s t u : PlainState) → SamePlace s t → Leaves t u → SamePlace s u
place_of s t u first leaves = record { preset = leaves.preset ∙ first.preset; slot = leaves.slot ∙ first.slot }

-- the updates of the registry
module _ (preset : Preset) (slot : ℕ) where
  eligibility_fixed : (s : PlainState) (index : ℕ) (v : Validator) → Fixed preset slot 0 s → Fixed preset slot 0 (with_eligibility s index v)
  unfolding with_eligibility
  eligibility_fixed s index v fixed =
      let waiting : Validator = record v { activation_eligibility_epoch = get_current_epoch s + 1 } in
      elim (chosen (is_eligible_for_activation_queue s.preset v) (record s { validators = slice_set s.validators index waiting }) s _ refl) [
        | inl waits ↦ subst (Fixed preset slot 0) waits.1 (record { preset_is = fixed.preset_is; slot_is = fixed.slot_is; registry = omega arith })
        | inr other ↦ subst (Fixed preset slot 0) other.1 fixed
      ]

  ejection_fixed : (config : ConfigValues) (s t : PlainState) (index : ℕ) → eligibility_and_ejection config s index ≡ done t → Fixed preset slot 0 s → Fixed preset slot 0 t
  unfolding eligibility_and_ejection
  ejection_fixed config s t index is fixed =
      let validator = on_the_way (item_at s.validators index) _ t is in
      let waiting = with_eligibility s index validator.value in
      let first = eligibility_fixed s index validator.value fixed in
      elim (chosen (is_active_validator validator.value (get_current_epoch s) && leb validator.value.effective_balance config.ejection_balance) _ _ _ validator.then_done) [
        | inl goes ↦ exit_fixed preset slot 0 waiting t index config goes.1 first
        | inr stays ↦ subst (Fixed preset slot 0) (same_value waiting t stays.1) first
      ]

  updates_fixed : (s t : PlainState) (config : ConfigValues) → process_registry_updates s config ≡ done t → Fixed preset slot 0 s → Fixed preset slot 0 t
  unfolding process_registry_updates
  updates_fixed s t config is fixed =
      let ejected = on_the_way (each_of (eligibility_and_ejection config) s (validator_indices s)) _ t is in
      let x = ejected.value in
      let epoch = on_the_way (compute_activation_exit_epoch x.preset (get_current_epoch x)) _ t ejected.then_done in
      let first = each_keeps (Fixed preset slot 0) (eligibility_and_ejection config) (ejection_fixed config) (validator_indices s) s x ejected.first fixed in
      subst (Fixed preset slot 0) (same_value _ t epoch.then_done) (record { preset_is = first.preset_is; slot_is = first.slot_is; registry = omega arith })

-- process_registry_updates
pub registry_updates_fixed : (s t : PlainState) (config : ConfigValues) → process_registry_updates s config ≡ done t → SamePlace s t
registry_updates_fixed s t config is =
    let fixed = updates_fixed s.preset s.slot s t config is (record { preset_is = refl; slot_is = refl; registry = omega arith }) in
    record { preset = fixed.preset_is; slot = fixed.slot_is }

-- process_randao_mixes_reset
randao_mixes_reset_fixed : (s : PlainState) → SamePlace s (process_randao_mixes_reset s)
unfolding process_randao_mixes_reset
randao_mixes_reset_fixed s = record { preset = refl; slot = refl }

rotation_fixed : (s t u : PlainState) → process_participation_record_updates t ≡ u → SamePlace s t → SamePlace s u
unfolding process_participation_record_updates
rotation_fixed s t u is place = subst (SamePlace s) is (record { preset = place.preset; slot = place.slot })

then_fixed : (s t u : PlainState) → SamePlace s t → SamePlace t u → SamePlace s u
then_fixed s t u first next = record { preset = next.preset ∙ first.preset; slot = next.slot ∙ first.slot }

-- process_epoch
pub epoch_fixed : (s t : PlainState) (config : ConfigValues) → process_epoch s config ≡ done t → SamePlace s t
epoch_fixed s t config is =
    let p = parts_of s t config is in
    let reset = process_eth1_data_reset p.penalized in
    let cleared = process_slashings_reset p.updated in
    let mixed = process_randao_mixes_reset cleared in
    let first = justification_leaves s p.justified p.to_justified in
    let one = place_of s p.justified p.rewarded (record { preset = first.preset; slot = first.slot }) (rewards_leave p.justified p.rewarded p.to_rewarded) in
    let two = then_fixed s p.rewarded p.registered one (registry_updates_fixed p.rewarded p.registered config p.to_registered) in
    let three = place_of s p.registered p.penalized two (slashings_leave p.registered p.penalized p.to_penalized) in
    let four = place_of s p.penalized reset three (eth1_data_reset_leaves p.penalized) in
    let five = place_of s reset p.updated four (effective_balances_leave reset p.updated p.to_updated) in
    let six = place_of s p.updated cleared five (slashings_reset_leaves p.updated) in
    let seven = then_fixed s cleared mixed six (randao_mixes_reset_fixed cleared) in
    let eight = place_of s mixed p.rooted seven (historical_roots_leave mixed p.rooted p.to_rooted) in
    rotation_fixed s p.rooted t p.rotated eight

pub epoch_preset : (s t : PlainState) (config : ConfigValues) → process_epoch s config ≡ done t → t.preset ≡ s.preset
epoch_preset s t config is = (epoch_fixed s t config is).preset

pub epoch_slot : (s t : PlainState) (config : ConfigValues) → process_epoch s config ≡ done t → t.slot ≡ s.slot
epoch_slot s t config is = (epoch_fixed s t config is).slot
