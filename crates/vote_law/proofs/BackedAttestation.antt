-- An attestation of a block waits backed, where the block carries its vote.
use Rattle.std.proofs.Common.{◌≡◌, ◌∙◌, ℕ, ◌<◌, ◌⊎◌, inl, inr, Bool, true, not, ◌||◌, ◌==◌, nat_lt, List, [], ◌∷◌, ◌++◌, length, refl, sym, ap, subst}
use Rattle.std.proofs.lemmas.Bool.{eqb-true, eqb-false, ltb-true, or_cases}
use Rattle.bc_words.specs.Outcome.{done, checked_sub, checked_push}
use Rattle.bc_words.specs.declared.refusal.Refusal.TheVariants.{AtTargetEpoch, AtSlotEpoch, AtIndex, AtSource, AtEmpty}
use Rattle.beacon_types.specs.Equality.{same_checkpoint}
use Rattle.beacon_types.proofs.Equality.{checkpoint_decides}
use Rattle.beacon_types.specs.declared.attestation_data.AttestationData.{AttestationData}
use Rattle.beacon_types.specs.declared.pending_attestation.PendingAttestation.{PendingAttestation}
use Rattle.beacon_types.specs.declared.attestation.Attestation.{Attestation}
use Rattle.spec_state.specs.declared.plain.PlainState.{PlainState}
use Rattle.spec_state.specs.States.{attestations_limit}
use Rattle.spec_state.specs.Misc.{compute_epoch_at_slot}
use Rattle.spec_state.specs.Accessors.{get_current_epoch, get_previous_epoch, get_active_validator_indices, get_randao_mix, get_committee_count_per_slot, get_attesting_indices}
use Rattle.spec_blocks.specs.Checks.{check}
use Rattle.spec_blocks.specs.ProcessAttestation.{process_attestation, check_times, check_committee, with_pending, with_current_pending, with_previous_pending}
use Rattle.spec_blocks.proofs.Done.{on_the_way, chosen, same_value, check_holds, push_is}
use Rattle.spec_blocks.proofs.Sound.{SameCommittees}
use Rattle.vote_law.specs.Backed.{Votes, IsBackedBy, IsBacked}
use Rattle.vote_law.proofs.Lists.{with_last}
use Rattle.vote_law.proofs.Backed.{all_backed_stay, no_more}

-- A state with one more attestation that waits: all are backed, and the epoch and all committees stay
pub record Pended (votes : Votes) (s t : PlainState) : Type 0 where
  pub epoch : get_current_epoch t ≡ get_current_epoch s
  pub committees : (at : ℕ) → SameCommittees s t at
  pub backed : IsBacked votes t

with_current : (votes : Votes) (s t : PlainState) (a : PendingAttestation) → with_current_pending s a ≡ done t → compute_epoch_at_slot s.preset a.content.slot ≡ get_current_epoch s
    → a.content.target.epoch ≡ get_current_epoch s → a.content.index < get_committee_count_per_slot s (get_current_epoch s) → votes a.content (get_attesting_indices s a.content a.aggregation_bits) → IsBacked votes s → Pended votes s t
unfolding with_current_pending get_current_epoch get_previous_epoch get_active_validator_indices get_randao_mix
with_current votes s t a is slot target index carried backed =
    let source = on_the_way (check (same_checkpoint a.content.source s.current_justified_checkpoint) AtSource) _ t is in
    let list = on_the_way (checked_push (attestations_limit s.preset) s.current_epoch_attestations a) _ t source.then_done in
    let pushed = push_is (attestations_limit s.preset) s.current_epoch_attestations a list.value list.first in
    let same_source = (checkpoint_decides a.content.source s.current_justified_checkpoint).0 (check_holds _ AtSource _ source.first) in
    let u : PlainState = record s { current_epoch_attestations = s.current_epoch_attestations ++ a ∷ [] } in
    let same : (at : ℕ) → SameCommittees s u at = λ at. record { preset = refl; active = refl; seed = refl } in
    let one : IsBackedBy votes s (get_current_epoch s) s.current_justified_checkpoint a = record { slot_epoch = slot; target = target; index = index; source = same_source; carried = carried } in
    let result : Pended votes s u = record {
      epoch = refl;
      committees = same;
      backed = record {
        current = all_backed_stay votes votes s u (get_current_epoch s) s.current_justified_checkpoint (no_more votes) (same (get_current_epoch s)) (s.current_epoch_attestations ++ a ∷ []) (with_last _ s.current_epoch_attestations a backed.current one);
        previous = all_backed_stay votes votes s u (get_previous_epoch s) s.previous_justified_checkpoint (no_more votes) (same (get_previous_epoch s)) s.previous_epoch_attestations backed.previous;
        early = backed.early;
      };
    } in
    subst (Pended votes s) (ap (λ (l : List PendingAttestation). record s { current_epoch_attestations = l }) (sym pushed) ∙ same_value _ t list.then_done) result

with_previous : (votes : Votes) (s t : PlainState) (a : PendingAttestation) → with_previous_pending s a ≡ done t → compute_epoch_at_slot s.preset a.content.slot ≡ get_previous_epoch s
    → a.content.target.epoch ≡ get_previous_epoch s → a.content.index < get_committee_count_per_slot s (get_previous_epoch s) → votes a.content (get_attesting_indices s a.content a.aggregation_bits) → IsBacked votes s → Pended votes s t
unfolding with_previous_pending get_current_epoch get_previous_epoch get_active_validator_indices get_randao_mix
with_previous votes s t a is slot target index carried backed =
    let source = on_the_way (check (same_checkpoint a.content.source s.previous_justified_checkpoint) AtSource) _ t is in
    let list = on_the_way (checked_push (attestations_limit s.preset) s.previous_epoch_attestations a) _ t source.then_done in
    let pushed = push_is (attestations_limit s.preset) s.previous_epoch_attestations a list.value list.first in
    let same_source = (checkpoint_decides a.content.source s.previous_justified_checkpoint).0 (check_holds _ AtSource _ source.first) in
    let u : PlainState = record s { previous_epoch_attestations = s.previous_epoch_attestations ++ a ∷ [] } in
    let same : (at : ℕ) → SameCommittees s u at = λ at. record { preset = refl; active = refl; seed = refl } in
    let one : IsBackedBy votes s (get_previous_epoch s) s.previous_justified_checkpoint a = record { slot_epoch = slot; target = target; index = index; source = same_source; carried = carried } in
    let result : Pended votes s u = record {
      epoch = refl;
      committees = same;
      backed = record {
        current = all_backed_stay votes votes s u (get_current_epoch s) s.current_justified_checkpoint (no_more votes) (same (get_current_epoch s)) s.current_epoch_attestations backed.current;
        previous = all_backed_stay votes votes s u (get_previous_epoch s) s.previous_justified_checkpoint (no_more votes) (same (get_previous_epoch s)) (s.previous_epoch_attestations ++ a ∷ []) (with_last _ s.previous_epoch_attestations a backed.previous one);
        early = backed.early;
      };
    } in
    subst (Pended votes s) (ap (λ (l : List PendingAttestation). record s { previous_epoch_attestations = l }) (sym pushed) ∙ same_value _ t list.then_done) result

-- the target is of the previous or the current epoch, and of the slot's
pub record IsRecent (s : PlainState) (voted : AttestationData) : Type 0 where
  pub target : (voted.target.epoch ≡ get_previous_epoch s) ⊎ (voted.target.epoch ≡ get_current_epoch s)
  pub epoch : voted.target.epoch ≡ compute_epoch_at_slot s.preset voted.slot

either_epoch : (s : PlainState) (epoch : ℕ) → ((epoch == get_previous_epoch s) || (epoch == get_current_epoch s)) ≡ true → (epoch ≡ get_previous_epoch s) ⊎ (epoch ≡ get_current_epoch s)
either_epoch s epoch is = elim (or_cases (epoch == get_previous_epoch s) (epoch == get_current_epoch s) is) [
  | inl previous ↦ inl (eqb-true _ _ previous)
  | inr current ↦ inr (eqb-true _ _ current)
]

recent : (s : PlainState) (voted : AttestationData) (x : Unit {0}) → check_times s voted ≡ done x → IsRecent s voted
unfolding check_times
recent s voted x is =
    let target = on_the_way (check ((voted.target.epoch == get_previous_epoch s) || (voted.target.epoch == get_current_epoch s)) AtTargetEpoch) _ x is in
    let slot = on_the_way (check (voted.target.epoch == compute_epoch_at_slot s.preset voted.slot) AtSlotEpoch) _ x target.then_done in
    record {
      target = either_epoch s voted.target.epoch (check_holds _ AtTargetEpoch _ target.first);
      epoch = eqb-true _ _ (check_holds _ AtSlotEpoch _ slot.first);
    }

seated : (s : PlainState) (voted : AttestationData) (bits : List Bool) (x : Unit {0}) → check_committee s voted bits ≡ done x → voted.index < get_committee_count_per_slot s voted.target.epoch
unfolding check_committee
seated s voted bits x is =
    let index = on_the_way (check (nat_lt voted.index (get_committee_count_per_slot s voted.target.epoch)) AtIndex) _ x is in
    ltb-true _ _ (check_holds _ AtIndex _ index.first)

pending : (votes : Votes) (s t : PlainState) (a : PendingAttestation) → with_pending s a ≡ done t → IsRecent s a.content → a.content.index < get_committee_count_per_slot s a.content.target.epoch
    → votes a.content (get_attesting_indices s a.content a.aggregation_bits) → IsBacked votes s → Pended votes s t
unfolding with_pending
pending votes s t a is timely index carried backed = elim (chosen (a.content.target.epoch == get_current_epoch s) _ _ _ is) [
  | inl current ↦
      let target = eqb-true _ _ current.0 in
      with_current votes s t a current.1 (sym timely.epoch ∙ target) target (subst (λ (e : ℕ). a.content.index < get_committee_count_per_slot s e) target index) carried backed
  | inr other ↦ elim timely.target [
    | inl target ↦ with_previous votes s t a other.1 (sym timely.epoch ∙ target) target (subst (λ (e : ℕ). a.content.index < get_committee_count_per_slot s e) target index) carried backed
    | inr target ↦ absurd (eqb-false _ _ other.0 target)
  ]
]

-- An attestation that a block adds is backed where it is a vote
pub attestation_pends : (votes : Votes) (s t : PlainState) (attestation : Attestation) (proposer : ℕ) → process_attestation s attestation proposer ≡ done t
    → (IsRecent s attestation.content → votes attestation.content (get_attesting_indices s attestation.content attestation.aggregation_bits)) → IsBacked votes s → Pended votes s t
unfolding process_attestation
attestation_pends votes s t attestation proposer is carried backed =
    let voted : AttestationData = attestation.content in
    let times = on_the_way (check_times s voted) _ t is in
    let committee = on_the_way (check_committee s voted attestation.aggregation_bits) _ t times.then_done in
    let delay = on_the_way (checked_sub s.slot voted.slot) _ t committee.then_done in
    let a : PendingAttestation = record { aggregation_bits = attestation.aggregation_bits; content = voted; inclusion_delay = delay.value; proposer_index = proposer } in
    let next = on_the_way (with_pending s a) _ t delay.then_done in
    let some = on_the_way (check (not (length (get_attesting_indices s voted attestation.aggregation_bits) == 0)) AtEmpty) _ t next.then_done in
    let timely = recent s voted times.value times.first in
    subst (Pended votes s) (same_value next.value t some.then_done) (pending votes s next.value a next.first timely (seated s voted attestation.aggregation_bits committee.value committee.first) (carried timely) backed)
