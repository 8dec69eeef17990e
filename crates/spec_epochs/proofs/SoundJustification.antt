-- Justification and finalisation leave a sound state sound within its epoch.
use Rattle.std.proofs.Common.{◌≡◌, ◌⊎◌, ℕ, ◌-◌, ◌<◌, ◌≤◌, Bool, leb, List, refl, subst, arith, inl, inr}
use Rattle.std.proofs.lemmas.Bool.{leb-false}
use Rattle.bc_words.specs.Outcome.{done}
use Rattle.beacon_types.specs.declared.checkpoint.Checkpoint.{Checkpoint}
use Rattle.spec_state.specs.declared.plain.PlainState.{PlainState}
use Rattle.spec_state.specs.Accessors.{get_current_epoch, get_previous_epoch, get_block_root, get_total_active_balance, get_active_validator_indices, get_randao_mix}
use Rattle.spec_state.specs.Soundness.{IsSound, IsSoundWithinEpoch}
use Rattle.spec_blocks.proofs.Done.{on_the_way, chosen, same_value}
use Rattle.spec_blocks.proofs.Sound.{SameCommittees, all_pending_stay}
use Rattle.spec_epochs.specs.declared.justification.Justification.{Justification}
use Rattle.spec_epochs.specs.Helpers.{get_matching_target_attestations, get_attesting_balance}
use Rattle.spec_epochs.specs.Weigh.{weigh, reaches_two_thirds, shifted, justified, justified_where, finalizing, finalized_by, previous_of}
use Rattle.spec_epochs.specs.WeighJustificationAndFinalization.{weigh_justification_and_finalization, justification_of, with_justification}
use Rattle.spec_epochs.specs.ProcessJustificationAndFinalization.{process_justification_and_finalization}
use Rattle.spec_epochs.proofs.JustifiedCheckpoints.{finalized_is}

-- epochs of the checkpoints of a record
record Below (justified finalized : ℕ) (j : Justification) : Type 0 where
  previous : j.previous.epoch ≤ justified
  current : j.current.epoch ≤ justified
  final : j.finalized.epoch ≤ finalized

-- what is finalised was justified before, or is as before
finalized_low : (bits : List Bool) (epoch low : ℕ) (old_previous old_current finalized : Checkpoint) → old_previous.epoch ≤ low → old_current.epoch ≤ low
    → finalized.epoch ≤ low → (finalized_by bits epoch old_previous old_current finalized).epoch ≤ low
finalized_low bits epoch low old_previous old_current finalized a b c = finalized_is (λ (x : Checkpoint). x.epoch ≤ low) bits epoch old_previous old_current
    finalized a b c

justified_low : (enough : Bool) (j : Justification) (back : ℕ) (checkpoint : Checkpoint) (high low : ℕ) → checkpoint.epoch ≤ high → Below high low j → Below high low (justified_where enough j back checkpoint)
unfolding justified_where
justified_low enough j back checkpoint high low less below = elim (chosen enough (justified j back checkpoint) j _ refl) [
  | inl takes ↦ subst (Below high low) takes.1 (record { previous = below.previous; current = less; final = below.final })
  | inr leaves ↦ subst (Below high low) leaves.1 below
]

weighed_low : (j k : Justification) (epoch : ℕ) (previous_root current_root : List ℕ) (total previous current : ℕ) → weigh j epoch previous_root current_root total previous current ≡ done k
    → Below (epoch - 1) (epoch - 1) j → Below epoch (epoch - 1) k
unfolding weigh finalizing shifted
weighed_low j k epoch previous_root current_root total previous current is below =
    let one = on_the_way (reaches_two_thirds previous total) _ k is in
    let other = on_the_way (reaches_two_thirds current total) _ k one.then_done in
    let start : Below epoch (epoch - 1) (shifted j) = record { previous = omega (arith, below.current); current = omega (arith, below.current); final = below.final } in
    let after_previous = justified_low one.value (shifted j) 1 (record { epoch = previous_of epoch; root = previous_root }) epoch (epoch - 1) (omega arith) start in
    let after_current = justified_low other.value _ 0 (record { epoch = epoch; root = current_root }) epoch (epoch - 1) (omega arith) after_previous in
    subst (Below epoch (epoch - 1)) (same_value _ k other.then_done) (record {
      previous = after_current.previous;
      current = after_current.current;
      final = finalized_low _ epoch (epoch - 1) j.previous j.current _ below.previous below.current after_current.final;
    })

-- a sound state with other bits and checkpoints
with_justification_sound : (s : PlainState) (j : Justification) → Below (get_current_epoch s) (get_previous_epoch s) j → IsSound s → IsSoundWithinEpoch (with_justification s j)
unfolding with_justification get_current_epoch get_previous_epoch get_active_validator_indices get_randao_mix
with_justification_sound s j below sound =
    let t : PlainState = with_justification s j in
    let same : (epoch : ℕ) → SameCommittees s t epoch = λ epoch. record { preset = refl; active = refl; seed = refl } in
    record {
      balances = sound.balances;
      header = sound.header;
      previous_justified = below.previous;
      current_justified = below.current;
      finalized = below.final;
      previous_attestations = all_pending_stay s t (get_previous_epoch s) (same _) (omega arith) (omega arith) s.previous_epoch_attestations sound.previous_attestations;
      current_attestations = all_pending_stay s t (get_current_epoch s) (same _) (omega arith) (omega arith) s.current_epoch_attestations sound.current_attestations;
      none_before = sound.none_before;
    }

-- a sound state is sound within its epoch
pub sound_within : (s : PlainState) → IsSound s → IsSoundWithinEpoch s
unfolding get_previous_epoch
sound_within s sound = record {
  balances = sound.balances;
  header = sound.header;
  previous_justified = omega (arith, sound.previous_justified);
  current_justified = omega (arith, sound.current_justified);
  finalized = sound.finalized;
  previous_attestations = sound.previous_attestations;
  current_attestations = sound.current_attestations;
  none_before = sound.none_before;
}

-- What justification leaves as it was: all but bits and checkpoints
pub record LeavesRegistry (s t : PlainState) : Type 0 where
  pub preset : t.preset ≡ s.preset
  pub slot : t.slot ≡ s.slot
  pub header : t.latest_block_header ≡ s.latest_block_header
  pub validators : t.validators ≡ s.validators
  pub balances : t.balances ≡ s.balances
  pub randao_mixes : t.randao_mixes ≡ s.randao_mixes
  pub slashings : t.slashings ≡ s.slashings
  pub previous_attestations : t.previous_epoch_attestations ≡ s.previous_epoch_attestations
  pub current_attestations : t.current_epoch_attestations ≡ s.current_epoch_attestations

with_justification_leaves : (s : PlainState) (j : Justification) → LeavesRegistry s (with_justification s j)
unfolding with_justification
with_justification_leaves s j = record { preset = refl; slot = refl; header = refl; validators = refl; balances = refl; randao_mixes = refl; slashings = refl; previous_attestations = refl; current_attestations = refl }

-- the bits and checkpoints that weighing gave, from epoch 2 on
pub record Weighed (s t : PlainState) : Type 0 where
  pub checkpoints : Justification
  pub total : ℕ
  pub previous : ℕ
  pub current : ℕ
  pub late : 1 < get_current_epoch s
  pub weighs : weigh (justification_of s) (get_current_epoch s) (get_block_root s (get_previous_epoch s)) (get_block_root s (get_current_epoch s)) total
      previous current ≡ done checkpoints
  pub gives : with_justification s checkpoints ≡ t

weighed_of : (s t : PlainState) (total previous current : ℕ) → 1 < get_current_epoch s → weigh_justification_and_finalization s total previous current ≡ done t
    → Weighed s t
unfolding weigh_justification_and_finalization
weighed_of s t total previous current late is =
    let weighed = on_the_way (weigh (justification_of s) (get_current_epoch s) (get_block_root s (get_previous_epoch s))
    (get_block_root s (get_current_epoch s)) total previous current) _ t is in
    record {
      checkpoints = weighed.value;
      total = total;
      previous = previous;
      current = current;
      late = late;
      weighs = weighed.first;
      gives = same_value (with_justification s weighed.value) t weighed.then_done;
    }

-- the state is as before, or was weighed
pub either_of : (s t : PlainState) → process_justification_and_finalization s ≡ done t → (s ≡ t) ⊎ Weighed s t
unfolding process_justification_and_finalization
either_of s t is = elim (chosen (leb (get_current_epoch s) 1) _ _ _ is) [
  | inl early ↦ inl (same_value s t early.1)
  | inr later ↦
      let total = on_the_way (get_total_active_balance s) _ t later.1 in
      let previous = on_the_way (get_attesting_balance s (get_matching_target_attestations s (get_previous_epoch s))) _ t total.then_done in
      let current = on_the_way (get_attesting_balance s (get_matching_target_attestations s (get_current_epoch s))) _ t previous.then_done in
      inr (weighed_of s t total.value previous.value current.value (leb-false (get_current_epoch s) 1 later.0) current.then_done)
]

weighed_sound : (s t : PlainState) → Weighed s t → IsSound s → IsSoundWithinEpoch t
unfolding justification_of get_previous_epoch
weighed_sound s t weighed sound =
    let before : Below (get_current_epoch s - 1) (get_current_epoch s - 1) (justification_of s) = record { previous = sound.previous_justified; current = sound.current_justified; final = sound.finalized } in
    let low = weighed_low (justification_of s) weighed.checkpoints (get_current_epoch s) _ _ weighed.total weighed.previous weighed.current weighed.weighs before in
    subst IsSoundWithinEpoch weighed.gives (with_justification_sound s weighed.checkpoints low sound)

-- process_justification_and_finalization leaves the rest of a state
pub justification_leaves : (s t : PlainState) → process_justification_and_finalization s ≡ done t → LeavesRegistry s t
justification_leaves s t is = elim (either_of s t is) [
  | inl same ↦ subst (LeavesRegistry s) same (record { preset = refl; slot = refl; header = refl; validators = refl; balances = refl; randao_mixes = refl; slashings = refl; previous_attestations = refl; current_attestations = refl })
  | inr weighed ↦ subst (LeavesRegistry s) weighed.gives (with_justification_leaves s weighed.checkpoints)
]

-- and leaves a sound state sound within its epoch
pub justification_sound : (s t : PlainState) → process_justification_and_finalization s ≡ done t → IsSound s → IsSoundWithinEpoch t
justification_sound s t is sound = elim (either_of s t is) [
  | inl same ↦ subst IsSoundWithinEpoch same (sound_within s sound)
  | inr weighed ↦ weighed_sound s t weighed sound
]
