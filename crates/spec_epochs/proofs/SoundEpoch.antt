-- The end of an epoch keeps a state sound: each part leaves it sound within its epoch, and once its attestations are the
-- previous epoch's and the next slot begins it is sound again.
use Rattle.std.proofs.Common.{◌≡◌, ◌≢◌, ◌∙◌, ℕ, ◌+◌, ◌/◌, ◌%◌, ◌<◌, refl, sym, ap, subst, arith, inl, inr}
use Rattle.std.specs.List.{AllByRecursion}
use Rattle.std.proofs.lemmas.Bool.{cases_lt}
use Rattle.std.proofs.Math.Nat.{div-add-mod, mod-lt, mul-le-mul_left}
use Rattle.bc_words.specs.Outcome.{done}
use Rattle.bc_preset.specs.declared.presets.Preset.{Preset}
use Rattle.bc_preset.specs.declared.configuration.ConfigValues.{ConfigValues}
use Rattle.bc_preset.specs.laws.Bounds.{HasPresetBounds}
use Rattle.spec_state.specs.declared.plain.PlainState.{PlainState}
use Rattle.spec_state.specs.Constants.{far_future_epoch}
use Rattle.spec_state.specs.Accessors.{get_current_epoch, get_previous_epoch, get_active_validator_indices, get_randao_mix}
use Rattle.spec_state.specs.Soundness.{IsSoundPending, IsSound, IsSoundWithinEpoch}
use Rattle.spec_blocks.proofs.Sound.{SameCommittees, all_pending_stay, still_sound}
use Rattle.spec_epochs.specs.ProcessRewardsAndPenalties.{process_rewards_and_penalties}
use Rattle.spec_epochs.specs.ProcessRegistryUpdates.{process_registry_updates}
use Rattle.spec_epochs.specs.ProcessSlashings.{process_slashings}
use Rattle.spec_epochs.specs.ProcessEth1DataReset.{process_eth1_data_reset}
use Rattle.spec_epochs.specs.ProcessEffectiveBalanceUpdates.{process_effective_balance_updates}
use Rattle.spec_epochs.specs.ProcessSlashingsReset.{process_slashings_reset}
use Rattle.spec_epochs.specs.ProcessRandaoMixesReset.{process_randao_mixes_reset}
use Rattle.spec_epochs.specs.ProcessHistoricalRootsUpdate.{process_historical_roots_update}
use Rattle.spec_epochs.specs.ProcessParticipationRecordUpdates.{process_participation_record_updates}
use Rattle.spec_epochs.specs.ProcessEpoch.{process_epoch}
use Rattle.spec_epochs.proofs.EpochParts.{EpochParts, parts_of}
use Rattle.spec_epochs.proofs.SoundWithin.{Leaves, leaves_both, within_stays, epoch_of}
use Rattle.spec_epochs.proofs.SoundParts.{rewards_leave, slashings_leave, eth1_data_reset_leaves, effective_balances_leave, slashings_reset_leaves, randao_mixes_reset_leaves, historical_roots_leave}
use Rattle.spec_epochs.proofs.SoundUpdates.{registry_updates_leave}
use Rattle.spec_epochs.proofs.SoundJustification.{justification_leaves, justification_sound}

-- ---- each part keeps a state sound within its epoch

pub rewards_sound : (s t : PlainState) → process_rewards_and_penalties s ≡ done t → IsSoundWithinEpoch s → IsSoundWithinEpoch t
rewards_sound s t is sound = within_stays s t (rewards_leave s t is) sound

pub registry_updates_sound : (s t : PlainState) (config : ConfigValues) → process_registry_updates s config ≡ done t → s.slot / s.preset.slots_per_epoch < far_future_epoch → IsSoundWithinEpoch s → IsSoundWithinEpoch t
unfolding get_current_epoch
registry_updates_sound s t config is before sound = within_stays s t (registry_updates_leave s t config is before) sound

pub slashings_sound : (s t : PlainState) → process_slashings s ≡ done t → IsSoundWithinEpoch s → IsSoundWithinEpoch t
slashings_sound s t is sound = within_stays s t (slashings_leave s t is) sound

pub eth1_data_reset_sound : (s : PlainState) → IsSoundWithinEpoch s → IsSoundWithinEpoch (process_eth1_data_reset s)
eth1_data_reset_sound s sound = within_stays s (process_eth1_data_reset s) (eth1_data_reset_leaves s) sound

pub effective_balances_sound : (s t : PlainState) → process_effective_balance_updates s ≡ done t → IsSoundWithinEpoch s → IsSoundWithinEpoch t
effective_balances_sound s t is sound = within_stays s t (effective_balances_leave s t is) sound

pub slashings_reset_sound : (s : PlainState) → IsSoundWithinEpoch s → IsSoundWithinEpoch (process_slashings_reset s)
slashings_reset_sound s sound = within_stays s (process_slashings_reset s) (slashings_reset_leaves s) sound

pub randao_mixes_reset_sound : (s : PlainState) → HasPresetBounds s.preset → IsSoundWithinEpoch s → IsSoundWithinEpoch (process_randao_mixes_reset s)
randao_mixes_reset_sound s bounds sound = within_stays s (process_randao_mixes_reset s) (randao_mixes_reset_leaves s bounds) sound

pub historical_roots_sound : (s t : PlainState) → process_historical_roots_update s ≡ done t → IsSoundWithinEpoch s → IsSoundWithinEpoch t
historical_roots_sound s t is sound = within_stays s t (historical_roots_leave s t is) sound

-- ---- the next slot

-- of slots of n, the next one begins the next epoch where n divides it
pub next_begins : (n slot : ℕ) → 0 < n → (slot + 1) % n ≡ 0 → (slot + 1) / n ≡ slot / n + 1
next_begins n slot some first =
    let low : slot % n < n = mod-lt slot some in
    elim (cases_lt ((slot + 1) / n) (slot / n + 1)) [
      | inl less ↦ absurd (omega (arith, mul-le-mul_left {m = (slot + 1) / n} {n = slot / n} n (omega arith), div-add-mod (slot + 1) n, div-add-mod slot n))
      | inr most ↦ elim (cases_lt (slot / n + 1) ((slot + 1) / n)) [
        | inl more ↦ absurd (omega (arith, mul-le-mul_left {m = slot / n + 1 + 1} {n = (slot + 1) / n} n (omega arith), div-add-mod (slot + 1) n, div-add-mod slot n))
        | inr least ↦ omega arith
      ]
    ]

-- and is of the same epoch where it doesn't
pub next_stays : (n slot : ℕ) → 0 < n → (slot + 1) % n ≢ 0 → (slot + 1) / n ≡ slot / n
next_stays n slot some other =
    let low : slot % n < n = mod-lt slot some in
    let next_low : (slot + 1) % n < n = mod-lt (slot + 1) some in
    let inside : 0 < (slot + 1) % n = elim (cases_lt 0 ((slot + 1) % n)) [
      | inl less ↦ less
      | inr most ↦ absurd (other (omega arith))
    ] in
    elim (cases_lt ((slot + 1) / n) (slot / n)) [
      | inl less ↦ absurd (omega (arith, mul-le-mul_left {m = (slot + 1) / n + 1} {n = slot / n} n (omega arith), div-add-mod (slot + 1) n, div-add-mod slot n))
      | inr most ↦ elim (cases_lt (slot / n) ((slot + 1) / n)) [
        | inl more ↦ absurd (omega (arith, mul-le-mul_left {m = slot / n + 1} {n = (slot + 1) / n} n (omega arith), div-add-mod (slot + 1) n, div-add-mod slot n))
        | inr least ↦ omega arith
      ]
    ]

-- the next slot of an epoch keeps a state sound
pub next_slot_sound : (s : PlainState) → HasPresetBounds s.preset → (s.slot + 1) % s.preset.slots_per_epoch ≢ 0 → IsSound s → IsSound (record s { slot = s.slot + 1 })
unfolding get_current_epoch get_active_validator_indices get_randao_mix
next_slot_sound s bounds within sound = still_sound s (record s { slot = s.slot + 1 }) (record {
  epoch = next_stays s.preset.slots_per_epoch s.slot (omega (arith, bounds.least_slots_per_epoch)) within;
  slot = omega arith;
  current = record { preset = refl; active = refl; seed = refl };
  previous = record { preset = refl; active = refl; seed = refl };
  validators = omega arith;
  balances = sound.balances;
  header = omega (arith, sound.header);
  previous_justified = refl;
  current_justified = refl;
  finalized = refl;
  previous_attestations = refl;
  current_attestations = refl;
}) sound

-- the rotation of the participation records, and the first slot of the next epoch
pub rotation_sound : (s : PlainState) → HasPresetBounds s.preset → (s.slot + 1) % s.preset.slots_per_epoch ≡ 0 → IsSoundWithinEpoch s
    → IsSound (record (process_participation_record_updates s) { slot = s.slot + 1 })
unfolding process_participation_record_updates get_current_epoch get_previous_epoch get_active_validator_indices get_randao_mix
rotation_sound s bounds last sound =
    let t : PlainState = record (process_participation_record_updates s) { slot = s.slot + 1 } in
    let n : ℕ = s.preset.slots_per_epoch in
    let next : (s.slot + 1) / n ≡ s.slot / n + 1 = next_begins n s.slot (omega (arith, bounds.least_slots_per_epoch)) last in
    let previous : get_previous_epoch t ≡ get_current_epoch s = omega arith in
    let same : (epoch : ℕ) → SameCommittees s t epoch = λ epoch. record { preset = refl; active = refl; seed = refl } in
    record {
      balances = sound.balances;
      header = omega (arith, sound.header);
      previous_justified = omega (arith, sound.previous_justified);
      current_justified = omega (arith, sound.current_justified);
      finalized = omega (arith, sound.finalized);
      previous_attestations = subst (λ (e : ℕ). AllByRecursion (IsSoundPending t e) s.current_epoch_attestations) (sym previous)
          (all_pending_stay s t (get_current_epoch s) (same _) (omega arith) (omega arith) s.current_epoch_attestations sound.current_attestations);
      current_attestations = tt;
      none_before = λ first. absurd (omega arith);
    }

-- ---- process_epoch

-- the parts between justification and the rotation
pub parts_leave : (s t : PlainState) (config : ConfigValues) (p : EpochParts s t config) → HasPresetBounds s.preset → get_current_epoch s < far_future_epoch → Leaves p.justified p.rooted
parts_leave s t config p bounds before =
    let first = justification_leaves s p.justified p.to_justified in
    let one = rewards_leave p.justified p.rewarded p.to_rewarded in
    let epoch : get_current_epoch p.rewarded ≡ get_current_epoch s = epoch_of s p.rewarded (one.preset ∙ first.preset) (one.slot ∙ first.slot) in
    let two = leaves_both p.justified p.rewarded p.registered one (registry_updates_leave p.rewarded p.registered config p.to_registered (omega arith)) in
    let three = leaves_both p.justified p.registered p.penalized two (slashings_leave p.registered p.penalized p.to_penalized) in
    let reset = process_eth1_data_reset p.penalized in
    let four = leaves_both p.justified p.penalized reset three (eth1_data_reset_leaves p.penalized) in
    let five = leaves_both p.justified reset p.updated four (effective_balances_leave reset p.updated p.to_updated) in
    let cleared = process_slashings_reset p.updated in
    let six = leaves_both p.justified p.updated cleared five (slashings_reset_leaves p.updated) in
    let mixed = process_randao_mixes_reset cleared in
    let seven = leaves_both p.justified cleared mixed six (randao_mixes_reset_leaves cleared (subst HasPresetBounds (sym (six.preset ∙ first.preset)) bounds)) in
    leaves_both p.justified mixed p.rooted seven (historical_roots_leave mixed p.rooted p.to_rooted)

last_too : (s t : PlainState) → t.preset ≡ s.preset → t.slot ≡ s.slot → (s.slot + 1) % s.preset.slots_per_epoch ≡ 0 → (t.slot + 1) % t.preset.slots_per_epoch ≡ 0
last_too s t preset slot last = ap (λ (p : Preset). (t.slot + 1) % p.slots_per_epoch) preset ∙ (ap (λ (n : ℕ). (n + 1) % s.preset.slots_per_epoch) slot ∙ last)

next_of_rotated : (s t : PlainState) → process_participation_record_updates s ≡ t → IsSound (record (process_participation_record_updates s) { slot = s.slot + 1 }) → IsSound (record t { slot = t.slot + 1 })
unfolding process_participation_record_updates
next_of_rotated s t is sound = subst (λ (x : PlainState). IsSound (record x { slot = x.slot + 1 })) is sound

-- An epoch's end keeps a state sound, with the slot behind it
pub epoch_sound : (s t : PlainState) (config : ConfigValues) → process_epoch s config ≡ done t → HasPresetBounds s.preset → s.slot / s.preset.slots_per_epoch < far_future_epoch → (s.slot + 1) % s.preset.slots_per_epoch ≡ 0 → IsSound s
    → IsSound (record t { slot = t.slot + 1 })
unfolding get_current_epoch
epoch_sound s t config is bounds before last sound =
    let p = parts_of s t config is in
    let first = justification_leaves s p.justified p.to_justified in
    let leaves = parts_leave s t config p bounds before in
    let preset = leaves.preset ∙ first.preset in
    let within = within_stays p.justified p.rooted leaves (justification_sound s p.justified p.to_justified sound) in
    next_of_rotated p.rooted t p.rotated (rotation_sound p.rooted (subst HasPresetBounds (sym preset) bounds) (last_too s p.rooted preset (leaves.slot ∙ first.slot) last) within)

rotated_header : (s t : PlainState) → process_participation_record_updates s ≡ t → t.latest_block_header ≡ s.latest_block_header
unfolding process_participation_record_updates
rotated_header s t is = ap (λ (x : PlainState). x.latest_block_header) (sym is)

-- An epoch's end leaves the header of the latest block
pub epoch_header : (s t : PlainState) (config : ConfigValues) → process_epoch s config ≡ done t → HasPresetBounds s.preset → s.slot / s.preset.slots_per_epoch < far_future_epoch → t.latest_block_header ≡ s.latest_block_header
unfolding get_current_epoch
epoch_header s t config is bounds before =
    let p = parts_of s t config is in
    let first = justification_leaves s p.justified p.to_justified in
    let leaves = parts_leave s t config p bounds before in
    rotated_header p.rooted t p.rotated ∙ (leaves.header ∙ first.header)
