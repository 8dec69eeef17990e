-- An attestation of a block keeps a state sound.
use Rattle.std.proofs.Common.{Bool, ◌≡◌, ◌∙◌, ℕ, ◌+◌, ◌-◌, ◌<◌, ◌≤◌, true, not, ◌||◌, ◌==◌, leb, nat_lt, List, length, refl, sym, ap, subst, arith, inl, inr, ◌⊎◌}
use Rattle.std.proofs.lemmas.Bool.{eqb-true, eqb-false, leb-true, ltb-true, or_cases}
use Rattle.bc_words.specs.Outcome.{done, checked_add, checked_sub, checked_push}
use Rattle.bc_words.specs.declared.refusal.Refusal.TheVariants.{AtTargetEpoch, AtSlotEpoch, AtEarly, AtIndex, AtBits, AtSource, AtEmpty}
use Rattle.bc_preset.specs.laws.Bounds.{HasPresetBounds}
use Rattle.beacon_types.specs.Equality.{same_checkpoint}
use Rattle.beacon_types.specs.declared.attestation_data.AttestationData.{AttestationData}
use Rattle.beacon_types.specs.declared.pending_attestation.PendingAttestation.{PendingAttestation}
use Rattle.beacon_types.specs.declared.attestation.Attestation.{Attestation}
use Rattle.spec_state.specs.declared.plain.PlainState.{PlainState}
use Rattle.spec_state.specs.States.{attestations_limit}
use Rattle.spec_state.specs.Misc.{compute_epoch_at_slot}
use Rattle.spec_state.specs.Accessors.{get_current_epoch, get_previous_epoch, get_committee_count_per_slot, get_beacon_committee, get_attesting_indices}
use Rattle.spec_state.specs.Soundness.{IsSound, IsSoundPending}
use Rattle.spec_blocks.specs.Checks.{check}
use Rattle.spec_blocks.specs.ProcessAttestation.{process_attestation, check_times, check_committee, with_pending, with_current_pending, with_previous_pending}
use Rattle.spec_blocks.proofs.Done.{on_the_way, check_holds, chosen, same_value, sum_is, difference_is, push_is}
use Rattle.spec_blocks.proofs.SoundPending.{current_sound, previous_sound}

with_current_sound : (s t : PlainState) (a : PendingAttestation) → with_current_pending s a ≡ done t → IsSoundPending s (get_current_epoch s) a → IsSound s → IsSound t
unfolding with_current_pending
with_current_sound s t a is one sound =
    let source = on_the_way (check (same_checkpoint a.content.source s.current_justified_checkpoint) AtSource) _ t is in
    let list = on_the_way (checked_push (attestations_limit s.preset) s.current_epoch_attestations a) _ t source.then_done in
    let pushed = push_is (attestations_limit s.preset) s.current_epoch_attestations a list.value list.first in
    subst IsSound (ap (λ (l : List PendingAttestation). record s { current_epoch_attestations = l }) (sym pushed) ∙ same_value _ t list.then_done) (current_sound s a one sound)

with_previous_sound : (s t : PlainState) (a : PendingAttestation) → with_previous_pending s a ≡ done t → IsSoundPending s (get_previous_epoch s) a → (get_current_epoch s ≡ 0 → ⊥) → IsSound s → IsSound t
unfolding with_previous_pending
with_previous_sound s t a is one later sound =
    let source = on_the_way (check (same_checkpoint a.content.source s.previous_justified_checkpoint) AtSource) _ t is in
    let list = on_the_way (checked_push (attestations_limit s.preset) s.previous_epoch_attestations a) _ t source.then_done in
    let pushed = push_is (attestations_limit s.preset) s.previous_epoch_attestations a list.value list.first in
    subst IsSound (ap (λ (l : List PendingAttestation). record s { previous_epoch_attestations = l }) (sym pushed) ∙ same_value _ t list.then_done) (previous_sound s a one later sound)

-- the epoch before the first one is the first one
first_is_both : (s : PlainState) → get_current_epoch s ≡ 0 → get_previous_epoch s ≡ get_current_epoch s
unfolding get_previous_epoch
first_is_both s first = omega arith

with_pending_sound : (s t : PlainState) (a : PendingAttestation) → with_pending s a ≡ done t → (a.content.target.epoch ≡ get_previous_epoch s) ⊎ (a.content.target.epoch ≡ get_current_epoch s) → IsSoundPending s a.content.target.epoch a → IsSound s → IsSound t
unfolding with_pending
with_pending_sound s t a is target one sound = elim (chosen (a.content.target.epoch == get_current_epoch s) _ _ _ is) [
  | inl current ↦ with_current_sound s t a current.1 (subst (λ (e : ℕ). IsSoundPending s e a) (eqb-true _ _ current.0) one) sound
  | inr other ↦ elim target [
    | inl previous ↦ with_previous_sound s t a other.1 (subst (λ (e : ℕ). IsSoundPending s e a) previous one) (λ first. eqb-false _ _ other.0 (previous ∙ first_is_both s first)) sound
    | inr current ↦ absurd (eqb-false _ _ other.0 current)
  ]
]

-- what an attestation that passed the checks waits as
waits_sound : (s : PlainState) (a : PendingAttestation) → a.content.target.epoch ≡ compute_epoch_at_slot s.preset a.content.slot → a.content.slot + 1 ≤ s.slot
    → a.content.index < get_committee_count_per_slot s a.content.target.epoch → length a.aggregation_bits ≡ length (get_beacon_committee s a.content.slot a.content.index)
    → a.inclusion_delay ≡ s.slot - a.content.slot → a.proposer_index < length s.validators → IsSoundPending s a.content.target.epoch a
waits_sound s a epoch early index bits delay known = record {
  slot_epoch = sym epoch;
  earlier = omega arith;
  target = refl;
  index = index;
  bits = bits;
  delay = omega arith;
  proposer = known;
}

either_epoch : (s : PlainState) (epoch : ℕ) → ((epoch == get_previous_epoch s) || (epoch == get_current_epoch s)) ≡ true → (epoch ≡ get_previous_epoch s) ⊎ (epoch ≡ get_current_epoch s)
either_epoch s epoch is = elim (or_cases (epoch == get_previous_epoch s) (epoch == get_current_epoch s) is) [
  | inl previous ↦ inl (eqb-true _ _ previous)
  | inr current ↦ inr (eqb-true _ _ current)
]

early_enough : (slot delay earliest now : ℕ) → delay ≡ 1 → checked_add slot delay ≡ done earliest → leb earliest now ≡ true → slot + 1 ≤ now
early_enough slot delay earliest now one sum low = let is = sum_is slot delay earliest sum in let below = leb-true earliest now low in omega arith

-- what the checks of the vote's time say
record InTime (s : PlainState) (content : AttestationData) : Type 0 where
  target : (content.target.epoch ≡ get_previous_epoch s) ⊎ (content.target.epoch ≡ get_current_epoch s)
  epoch : content.target.epoch ≡ compute_epoch_at_slot s.preset content.slot
  early : content.slot + 1 ≤ s.slot

in_time : (s : PlainState) (content : AttestationData) (x : Unit {0}) → check_times s content ≡ done x → HasPresetBounds s.preset → InTime s content
unfolding check_times
in_time s content x is bounds =
    let target = on_the_way (check ((content.target.epoch == get_previous_epoch s) || (content.target.epoch == get_current_epoch s)) AtTargetEpoch) _ x is in
    let slot = on_the_way (check (content.target.epoch == compute_epoch_at_slot s.preset content.slot) AtSlotEpoch) _ x target.then_done in
    let earliest = on_the_way (checked_add content.slot s.preset.min_attestation_inclusion_delay) _ x slot.then_done in
    let early = on_the_way (check (leb earliest.value s.slot) AtEarly) _ x earliest.then_done in
    record {
      target = either_epoch s content.target.epoch (check_holds _ AtTargetEpoch _ target.first);
      epoch = eqb-true _ _ (check_holds _ AtSlotEpoch _ slot.first);
      early = early_enough content.slot s.preset.min_attestation_inclusion_delay earliest.value s.slot bounds.min_attestation_inclusion_delay earliest.first (check_holds _ AtEarly _ early.first);
    }

-- and those of its committee
record HasCommittee (s : PlainState) (content : AttestationData) (bits : List Bool) : Type 0 where
  index : content.index < get_committee_count_per_slot s content.target.epoch
  members : length bits ≡ length (get_beacon_committee s content.slot content.index)

has_committee : (s : PlainState) (content : AttestationData) (bits : List Bool) (x : Unit {0}) → check_committee s content bits ≡ done x → HasCommittee s content bits
unfolding check_committee
has_committee s content bits x is =
    let index = on_the_way (check (nat_lt content.index (get_committee_count_per_slot s content.target.epoch)) AtIndex) _ x is in
    record { index = ltb-true _ _ (check_holds _ AtIndex _ index.first); members = eqb-true _ _ (check_holds _ AtBits x index.then_done) }

-- an attestation
pub attestation_sound : (s t : PlainState) (attestation : Attestation) (proposer : ℕ) → process_attestation s attestation proposer ≡ done t → HasPresetBounds s.preset → proposer < length s.validators → IsSound s → IsSound t
unfolding process_attestation
attestation_sound s t attestation proposer is bounds known sound =
    let content : AttestationData = attestation.content in
    let times = on_the_way (check_times s content) _ t is in
    let committee = on_the_way (check_committee s content attestation.aggregation_bits) _ t times.then_done in
    let delay = on_the_way (checked_sub s.slot content.slot) _ t committee.then_done in
    let pending : PendingAttestation = record { aggregation_bits = attestation.aggregation_bits; content = content; inclusion_delay = delay.value; proposer_index = proposer } in
    let next = on_the_way (with_pending s pending) _ t delay.then_done in
    let some = on_the_way (check (not (length (get_attesting_indices s content attestation.aggregation_bits) == 0)) AtEmpty) _ t next.then_done in
    let timely = in_time s content times.value times.first bounds in
    let seated = has_committee s content attestation.aggregation_bits committee.value committee.first in
    let waits : IsSoundPending s content.target.epoch pending = waits_sound s pending timely.epoch timely.early seated.index seated.members (difference_is s.slot content.slot delay.value delay.first) known in
    subst IsSound (same_value next.value t some.then_done) (with_pending_sound s next.value pending next.first timely.target waits sound)
