-- The end of an epoch keeps the attestations that wait backed: the current ones become the previous ones, and so does the
-- justified checkpoint.
use Rattle.std.proofs.Common.{◌≡◌, ◌∙◌, ℕ, ◌+◌, ◌/◌, ◌%◌, ◌<◌, ◌≤◌, Bool, true, false, leb, List, refl, sym, ap, subst, arith, inl, inr}
use Rattle.std.proofs.lemmas.Bool.{leb-true, leb-false}
use Rattle.bc_words.specs.Outcome.{done}
use Rattle.bc_preset.specs.declared.presets.Preset.{Preset}
use Rattle.bc_preset.specs.declared.configuration.ConfigValues.{ConfigValues}
use Rattle.bc_preset.specs.laws.Bounds.{HasPresetBounds}
use Rattle.beacon_types.specs.declared.checkpoint.Checkpoint.{Checkpoint}
use Rattle.spec_state.specs.declared.plain.PlainState.{PlainState}
use Rattle.spec_state.specs.Constants.{far_future_epoch}
use Rattle.spec_state.specs.Accessors.{get_current_epoch, get_previous_epoch, get_active_validator_indices, get_randao_mix, get_block_root, get_total_active_balance}
use Rattle.spec_blocks.proofs.Done.{on_the_way, chosen, same_value}
use Rattle.spec_blocks.proofs.Sound.{SameCommittees}
use Rattle.spec_epochs.specs.declared.justification.Justification.{Justification}
use Rattle.spec_epochs.specs.Weigh.{weigh, reaches_two_thirds, shifted, justified_where, finalizing, previous_of}
use Rattle.spec_epochs.specs.Helpers.{get_matching_target_attestations, get_attesting_balance}
use Rattle.spec_epochs.specs.WeighJustificationAndFinalization.{justification_of, with_justification, weigh_justification_and_finalization}
use Rattle.spec_epochs.specs.ProcessJustificationAndFinalization.{process_justification_and_finalization}
use Rattle.spec_epochs.specs.ProcessParticipationRecordUpdates.{process_participation_record_updates}
use Rattle.spec_epochs.specs.ProcessEpoch.{process_epoch}
use Rattle.spec_epochs.proofs.EpochParts.{parts_of}
use Rattle.spec_epochs.proofs.SoundWithin.{epoch_of}
use Rattle.spec_epochs.proofs.SoundEpoch.{next_begins, parts_leave}
use Rattle.spec_epochs.proofs.SoundJustification.{justification_leaves, either_of}
use Rattle.vote_law.specs.Backed.{Votes, IsBacked}
use Rattle.vote_law.proofs.Backed.{all_backed_stay, moved, no_more, same_stays}

-- ---- justification

keeps_previous : (enough : Bool) (j : Justification) (back : ℕ) (checkpoint : Checkpoint) → (justified_where enough j back checkpoint).previous ≡ j.previous
unfolding justified_where
keeps_previous true j back checkpoint = refl
keeps_previous false j back checkpoint = refl

-- what was justified last is what was justified before
pub previous_is : (j k : Justification) (epoch : ℕ) (previous_root current_root : List ℕ) (total previous current : ℕ)
    → weigh j epoch previous_root current_root total previous current ≡ done k → k.previous ≡ j.current
unfolding weigh finalizing shifted
previous_is j k epoch previous_root current_root total previous current is =
    let one = on_the_way (reaches_two_thirds previous total) _ k is in
    let other = on_the_way (reaches_two_thirds current total) _ k one.then_done in
    let after : Justification = justified_where one.value (shifted j) 1 (record { epoch = previous_of epoch; root = previous_root }) in
    sym (ap (λ (x : Justification). x.previous) (same_value _ k other.then_done))
    ∙ (keeps_previous other.value after 0 (record { epoch = epoch; root = current_root })
    ∙ keeps_previous one.value (shifted j) 1 (record { epoch = previous_of epoch; root = previous_root }))

weighed_previous : (s t : PlainState) (total previous current : ℕ) → weigh_justification_and_finalization s total previous current ≡ done t → t.previous_justified_checkpoint ≡ s.current_justified_checkpoint
unfolding weigh_justification_and_finalization with_justification justification_of
weighed_previous s t total previous current is =
    let weighed = on_the_way (weigh (justification_of s) (get_current_epoch s) (get_block_root s (get_previous_epoch s)) (get_block_root s (get_current_epoch s)) total previous current) _ t is in
    sym (ap (λ (x : PlainState). x.previous_justified_checkpoint) (same_value _ t weighed.then_done))
    ∙ previous_is (justification_of s) weighed.value (get_current_epoch s) _ _ total previous current weighed.first

-- what was justified while the epoch ran was justified in the epoch before, once it has ended
pub rotates : (s t : PlainState) → process_justification_and_finalization s ≡ done t → (get_current_epoch s ≤ 1 → s.previous_justified_checkpoint ≡ s.current_justified_checkpoint)
    → t.previous_justified_checkpoint ≡ s.current_justified_checkpoint
unfolding process_justification_and_finalization
rotates s t is early = elim (chosen (leb (get_current_epoch s) 1) _ _ _ is) [
  | inl first ↦ subst (λ (x : PlainState). x.previous_justified_checkpoint ≡ s.current_justified_checkpoint) (same_value s t first.1) (early (leb-true (get_current_epoch s) 1 first.0))
  | inr later ↦
      let total = on_the_way (get_total_active_balance s) _ t later.1 in
      let previous = on_the_way (get_attesting_balance s (get_matching_target_attestations s (get_previous_epoch s))) _ t total.then_done in
      let current = on_the_way (get_attesting_balance s (get_matching_target_attestations s (get_current_epoch s))) _ t previous.then_done in
      weighed_previous s t total.value previous.value current.value current.then_done
]

-- nothing changes in the first two epochs
pub first_two : (s t : PlainState) → process_justification_and_finalization s ≡ done t → get_current_epoch s ≤ 1 → s ≡ t
unfolding process_justification_and_finalization
first_two s t is early = elim (chosen (leb (get_current_epoch s) 1) _ _ _ is) [
  | inl first ↦ same_value s t first.1
  | inr later ↦ absurd (let late = leb-false (get_current_epoch s) 1 later.0 in omega arith)
]

with_committees : (s : PlainState) (j : Justification) (epoch : ℕ) → SameCommittees s (with_justification s j) epoch
unfolding with_justification get_active_validator_indices get_randao_mix
with_committees s j epoch = record { preset = refl; active = refl; seed = refl }

justification_committees : (s t : PlainState) → process_justification_and_finalization s ≡ done t → (epoch : ℕ) → SameCommittees s t epoch
justification_committees s t is epoch = elim (either_of s t is) [
  | inl same ↦ subst (λ (x : PlainState). SameCommittees s x epoch) same (record { preset = refl; active = refl; seed = refl })
  | inr weighed ↦ subst (λ (x : PlainState). SameCommittees s x epoch) weighed.gives (with_committees s weighed.checkpoints epoch)
]

-- the rotation, and the first slot of the next epoch
rotated_backed : (votes : Votes) (s r : PlainState) → HasPresetBounds s.preset → (s.slot + 1) % s.preset.slots_per_epoch ≡ 0
    → SameCommittees s r (get_current_epoch s) → r.slot ≡ s.slot → r.current_epoch_attestations ≡ s.current_epoch_attestations
    → r.previous_justified_checkpoint ≡ s.current_justified_checkpoint → (get_current_epoch s ≡ 0 → r.previous_justified_checkpoint ≡ r.current_justified_checkpoint)
    → IsBacked votes s → IsBacked votes (record (process_participation_record_updates r) { slot = r.slot + 1 })
unfolding process_participation_record_updates get_current_epoch get_previous_epoch get_active_validator_indices get_randao_mix
rotated_backed votes s r bounds last committees slot list justified early backed =
    let u : PlainState = record (process_participation_record_updates r) { slot = r.slot + 1 } in
    let n : ℕ = s.preset.slots_per_epoch in
    let next : (s.slot + 1) / n ≡ s.slot / n + 1 = next_begins n s.slot (omega (arith, bounds.least_slots_per_epoch)) last in
    let epoch : get_current_epoch u ≡ s.slot / n + 1 = ap (λ (p : Preset). (r.slot + 1) / p.slots_per_epoch) committees.preset ∙ (ap (λ (k : ℕ). (k + 1) / n) slot ∙ next) in
    let previous : get_previous_epoch u ≡ get_current_epoch s = omega arith in
    let behind : SameCommittees r u (get_current_epoch s) = record { preset = refl; active = refl; seed = refl } in
    record {
      current = tt;
      previous = moved votes u (sym previous) (sym justified) (sym list)
          (all_backed_stay votes votes s u (get_current_epoch s) s.current_justified_checkpoint (no_more votes) (same_stays s r u (get_current_epoch s) committees behind) s.current_epoch_attestations backed.current);
      early = λ low. early (omega arith);
    }

-- The end of an epoch, with the slot behind it
pub epoch_backed : (votes : Votes) (s t : PlainState) (config : ConfigValues) → process_epoch s config ≡ done t → HasPresetBounds s.preset → get_current_epoch s < far_future_epoch
    → (s.slot + 1) % s.preset.slots_per_epoch ≡ 0 → IsBacked votes s → IsBacked votes (record t { slot = t.slot + 1 })
unfolding process_participation_record_updates
epoch_backed votes s t config is bounds before last backed =
    let p = parts_of s t config is in
    let first = justification_leaves s p.justified p.to_justified in
    let leaves = parts_leave s t config p bounds before in
    let e : ℕ = get_current_epoch s in
    let same_epoch : get_current_epoch p.justified ≡ e = epoch_of s p.justified first.preset first.slot in
    let committees : SameCommittees s p.rooted e = same_stays s p.justified p.rooted e (justification_committees s p.justified p.to_justified e) (leaves.committees e (omega arith) (omega arith)) in
    let justified = leaves.previous_justified ∙ rotates s p.justified p.to_justified backed.early in
    subst (λ (x : PlainState). IsBacked votes (record x { slot = x.slot + 1 })) p.rotated
    (rotated_backed votes s p.rooted bounds last committees (leaves.slot ∙ first.slot) (leaves.current_attestations ∙ first.current_attestations) justified
    (λ zero.
    let same : s ≡ p.justified = first_two s p.justified p.to_justified (omega arith) in
    leaves.previous_justified
    ∙ (subst (λ (x : PlainState). x.previous_justified_checkpoint ≡ x.current_justified_checkpoint) same (backed.early (omega arith)) ∙ sym leaves.current_justified))
    backed)
