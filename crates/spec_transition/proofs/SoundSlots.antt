-- A slot keeps a state sound, also where it is the last one of its epoch.
use Rattle.std.proofs.Common.{◌≡◌, ◌≢◌, ◌∙◌, ℕ, ◌+◌, ◌%◌, ◌<◌, ◌^◌, true, false, not, nat_eq, refl, sym, ap, subst, arith, inl, inr}
use Rattle.std.proofs.lemmas.Bool.{eqb-true, eq-eqb, both_ways, not-true, not-false}
use Rattle.bc_words.specs.Outcome.{done}
use Rattle.bc_preset.specs.declared.configuration.ConfigValues.{ConfigValues}
use Rattle.bc_preset.specs.laws.Bounds.{HasPresetBounds}
use Rattle.spec_state.specs.declared.plain.PlainState.{PlainState}
use Rattle.spec_state.specs.Soundness.{IsSound, IsSoundWithinEpoch}
use Rattle.spec_blocks.proofs.Done.{on_the_way, chosen, same_value}
use Rattle.spec_epochs.specs.ProcessEpoch.{process_epoch}
use Rattle.spec_epochs.specs.ProcessParticipationRecordUpdates.{process_participation_record_updates}
use Rattle.spec_epochs.proofs.Fixed.{SamePlace, epoch_fixed}
use Rattle.spec_epochs.proofs.SoundEpoch.{epoch_sound, next_slot_sound, rotation_sound}
use Rattle.spec_transition.specs.ProcessSlot.{process_slot}
use Rattle.spec_transition.specs.ProcessSlots.{Stepped, is_last_of_epoch, with_next_slot, end_epoch, next_slot}
use Rattle.spec_transition.proofs.Sound.{slot_end_sound}
use Rattle.spec_transition.proofs.HeaderChecks.{below, ended, ended_preset}

last_is : (s : PlainState) → is_last_of_epoch s ≡ true → (s.slot + 1) % s.preset.slots_per_epoch ≡ 0
unfolding is_last_of_epoch
last_is s is = eqb-true _ _ is

not_last : (s : PlainState) → is_last_of_epoch s ≡ false → (s.slot + 1) % s.preset.slots_per_epoch ≢ 0
unfolding is_last_of_epoch
not_last s is last = both_ways (nat_eq ((s.slot + 1) % s.preset.slots_per_epoch) 0) is (eq-eqb _ _ last)

-- the rotation of the participation records at the epoch's end, and the next slot
pub rotated_sound : (s : PlainState) → HasPresetBounds s.preset → is_last_of_epoch s ≡ true → IsSoundWithinEpoch s → IsSound (with_next_slot (process_participation_record_updates s))
unfolding with_next_slot process_participation_record_updates
rotated_sound s bounds last sound = rotation_sound s bounds (last_is s last) sound

-- the epoch's end, where the slot is its last one, and the next slot
end_sound : (config : ConfigValues) (s t : Stepped) → end_epoch config s ≡ done t → HasPresetBounds s.state.preset → s.state.slot < 2 ^ 64 → IsSound s.state → IsSound (with_next_slot t.state)
unfolding end_epoch with_next_slot
end_sound config s t is bounds low sound = elim (chosen (not (is_last_of_epoch s.state)) _ _ _ is) [
  | inl within ↦ subst (λ (x : Stepped). IsSound (with_next_slot x.state)) (same_value s t within.1) (next_slot_sound s.state bounds (not_last s.state (not-true _ within.0)) sound)
  | inr last ↦
      let processed = on_the_way (process_epoch s.state config) _ t last.1 in
      subst (λ (x : Stepped). IsSound (with_next_slot x.state)) (same_value _ t processed.then_done)
      (epoch_sound s.state processed.value config processed.first bounds (below s.state.preset s.state.slot bounds low) (last_is s.state (not-false _ last.0)) sound)
]

-- a slot keeps a state sound
pub next_sound : (config : ConfigValues) (s t : Stepped) → next_slot config s ≡ done t → HasPresetBounds s.state.preset → s.state.slot < 2 ^ 64 → IsSound s.state → IsSound t.state
unfolding next_slot
next_sound config s t is bounds low sound =
    let over : Stepped = record s { state = process_slot s.state } in
    let end = on_the_way (end_epoch config over) _ t is in
    let sound_over = end_sound config over end.value end.first (subst HasPresetBounds (sym (ended_preset s.state)) bounds) (omega (arith, ended s.state)) (slot_end_sound s.state sound) in
    subst (λ (x : Stepped). IsSound x.state) (same_value _ t end.then_done) sound_over

-- the epoch's end leaves the preset and the slot
same_place : (config : ConfigValues) (s t : Stepped) → end_epoch config s ≡ done t → SamePlace s.state t.state
unfolding end_epoch
same_place config s t is = elim (chosen (not (is_last_of_epoch s.state)) _ _ _ is) [
  | inl within ↦ subst (λ (x : Stepped). SamePlace s.state x.state) (same_value s t within.1) (record { preset = refl; slot = refl })
  | inr last ↦
      let processed = on_the_way (process_epoch s.state config) _ t last.1 in
      subst (λ (x : Stepped). SamePlace s.state x.state) (same_value _ t processed.then_done) (epoch_fixed s.state processed.value config processed.first)
]

-- the next slot is one more, of the same preset
pub next_slot_is : (config : ConfigValues) (s t : Stepped) → next_slot config s ≡ done t → t.state.slot ≡ s.state.slot + 1
unfolding next_slot with_next_slot
next_slot_is config s t is =
    let over : Stepped = record s { state = process_slot s.state } in
    let end = on_the_way (end_epoch config over) _ t is in
    let place = same_place config over end.value end.first in
    subst (λ (x : Stepped). x.state.slot ≡ s.state.slot + 1) (same_value _ t end.then_done) (ap (λ (n : ℕ). n + 1) (place.slot ∙ ended s.state))

pub next_preset_is : (config : ConfigValues) (s t : Stepped) → next_slot config s ≡ done t → t.state.preset ≡ s.state.preset
unfolding next_slot with_next_slot
next_preset_is config s t is =
    let over : Stepped = record s { state = process_slot s.state } in
    let end = on_the_way (end_epoch config over) _ t is in
    let place = same_place config over end.value end.first in
    subst (λ (x : Stepped). x.state.preset ≡ s.state.preset) (same_value _ t end.then_done) (place.preset ∙ ended_preset s.state)
