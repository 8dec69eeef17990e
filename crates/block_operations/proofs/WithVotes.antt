-- Votes behind the pending attestations of a state: none are the state itself, and what checks read is that of the state.
use Rattle.std.proofs.Common.{◌≡◌, List, [], ◌∷◌, ◌++◌, Bool, refl, ap, ap₂}
use Rattle.std.proofs.lemmas.List.{append-nil, append_assoc}
use Rattle.beacon_types.specs.declared.attestation_data.AttestationData.{AttestationData}
use Rattle.beacon_types.specs.declared.attestation.Attestation.{Attestation}
use Rattle.beacon_types.specs.declared.pending_attestation.PendingAttestation.{PendingAttestation}
use Rattle.spec_state.specs.declared.plain.PlainState.{PlainState}
use Rattle.spec_state.specs.Accessors.{get_current_epoch, get_previous_epoch, get_active_validator_indices, get_randao_mix, get_committee_count_per_slot, get_beacon_committee, get_attesting_indices}
use Rattle.spec_blocks.specs.ProcessAttestation.{check_times, check_committee}
use Rattle.block_operations.specs.WithVotes.{with_votes}
use Rattle.block_operations.specs.inside.Attested.{is_attested}

abbrev both : PlainState → List PendingAttestation → List PendingAttestation → PlainState
both s previous current = record s { previous_epoch_attestations = previous; current_epoch_attestations = current }

pub no_votes : (s : PlainState) → with_votes s ([], []) ≡ s
unfolding with_votes
no_votes s = ap₂ (both s) (append-nil s.previous_epoch_attestations) (append-nil s.current_epoch_attestations)

pub one_more_current : (s : PlainState) (previous current : List PendingAttestation) (vote : PendingAttestation)
    → record (with_votes s (previous, current)) { current_epoch_attestations = (with_votes s (previous, current)).current_epoch_attestations ++ vote ∷ [] }
    ≡ with_votes s (previous, current ++ vote ∷ [])
unfolding with_votes
one_more_current s previous current vote = ap (both s (s.previous_epoch_attestations ++ previous)) (append_assoc s.current_epoch_attestations current (vote ∷ []))

pub one_more_previous : (s : PlainState) (previous current : List PendingAttestation) (vote : PendingAttestation)
    → record (with_votes s (previous, current)) { previous_epoch_attestations = (with_votes s (previous, current)).previous_epoch_attestations ++ vote ∷ [] }
    ≡ with_votes s (previous ++ vote ∷ [], current)
unfolding with_votes
one_more_previous s previous current vote = ap (λ (votes : List PendingAttestation). both s votes (s.current_epoch_attestations ++ current)) (append_assoc s.previous_epoch_attestations previous (vote ∷ []))

pub same_times : (s : PlainState) (votes : List PendingAttestation × List PendingAttestation) (content : AttestationData) → check_times (with_votes s votes) content ≡ check_times s content
unfolding with_votes check_times get_current_epoch get_previous_epoch
same_times s votes content = refl

pub same_committee : (s : PlainState) (votes : List PendingAttestation × List PendingAttestation) (content : AttestationData) (bits : List Bool) → check_committee (with_votes s votes) content bits ≡ check_committee s content bits
unfolding with_votes check_committee get_committee_count_per_slot get_beacon_committee get_active_validator_indices get_randao_mix
same_committee s votes content bits = refl

pub same_attested : (s : PlainState) (votes : List PendingAttestation × List PendingAttestation) (a : Attestation) → is_attested (with_votes s votes) a ≡ is_attested s a
unfolding with_votes is_attested get_attesting_indices get_committee_count_per_slot get_beacon_committee get_active_validator_indices get_randao_mix
same_attested s votes a = refl
