-- An attestation adds to the lists of pending attestations alone: what such a change keeps, it keeps.
use Rattle.std.proofs.Common.{◌≡◌, not, ◌==◌, ℕ, List, length, subst, inl, inr}
use Rattle.bc_words.specs.Outcome.{done, checked_sub, checked_push}
use Rattle.bc_words.specs.declared.refusal.Refusal.TheVariants.{AtSource, AtEmpty}
use Rattle.beacon_types.specs.Equality.{same_checkpoint}
use Rattle.beacon_types.specs.declared.pending_attestation.PendingAttestation.{PendingAttestation}
use Rattle.beacon_types.specs.declared.attestation.Attestation.{Attestation}
use Rattle.spec_state.specs.declared.plain.PlainState.{PlainState}
use Rattle.spec_state.specs.States.{attestations_limit}
use Rattle.spec_state.specs.Accessors.{get_current_epoch, get_attesting_indices}
use Rattle.spec_blocks.specs.Checks.{check}
use Rattle.spec_blocks.specs.ProcessAttestation.{process_attestation, check_times, check_committee, with_pending, with_current_pending, with_previous_pending}
use Rattle.spec_blocks.proofs.Done.{on_the_way, chosen, same_value}

module _ (P : PlainState → Type 0)
    (of_pending : (s : PlainState) (previous current : List PendingAttestation) → P s → P (record s { previous_epoch_attestations = previous; current_epoch_attestations = current })) where
  pending_keeps : (s t : PlainState) (a : PendingAttestation) → with_pending s a ≡ done t → P s → P t
  unfolding with_pending with_current_pending with_previous_pending
  pending_keeps s t a is holds = elim (chosen (a.content.target.epoch == get_current_epoch s) _ _ _ is) [
    | inl current ↦
        let source = on_the_way (check (same_checkpoint a.content.source s.current_justified_checkpoint) AtSource) _ t current.1 in
        let list = on_the_way (checked_push (attestations_limit s.preset) s.current_epoch_attestations a) _ t source.then_done in
        subst P (same_value _ t list.then_done) (of_pending s s.previous_epoch_attestations list.value holds)
    | inr other ↦
        let source = on_the_way (check (same_checkpoint a.content.source s.previous_justified_checkpoint) AtSource) _ t other.1 in
        let list = on_the_way (checked_push (attestations_limit s.preset) s.previous_epoch_attestations a) _ t source.then_done in
        subst P (same_value _ t list.then_done) (of_pending s list.value s.current_epoch_attestations holds)
  ]

  pub attestation_keeps : (proposer : ℕ) (s t : PlainState) (attestation : Attestation) → process_attestation s attestation proposer ≡ done t → P s → P t
  unfolding process_attestation
  attestation_keeps proposer s t attestation is holds =
      let content = attestation.content in
      let times = on_the_way (check_times s content) _ t is in
      let committee = on_the_way (check_committee s content attestation.aggregation_bits) _ t times.then_done in
      let delay = on_the_way (checked_sub s.slot content.slot) _ t committee.then_done in
      let pending : PendingAttestation = record { aggregation_bits = attestation.aggregation_bits; content = content; inclusion_delay = delay.value; proposer_index = proposer } in
      let next = on_the_way (with_pending s pending) _ t delay.then_done in
      let some = on_the_way (check (not (length (get_attesting_indices s content attestation.aggregation_bits) == 0)) AtEmpty) _ t next.then_done in
      subst P (same_value next.value t some.then_done) (pending_keeps s next.value pending next.first holds)
