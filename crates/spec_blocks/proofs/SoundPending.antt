-- One more pending attestation keeps a state sound.
use Rattle.std.proofs.Common.{◌≡◌, ℕ, List, [], ◌∷◌, ◌++◌, refl, arith}
use Rattle.std.specs.List.{AllByRecursion}
use Rattle.beacon_types.specs.declared.pending_attestation.PendingAttestation.{PendingAttestation}
use Rattle.spec_state.specs.declared.plain.PlainState.{PlainState}
use Rattle.spec_state.specs.Accessors.{get_current_epoch, get_previous_epoch, get_active_validator_indices, get_randao_mix}
use Rattle.spec_state.specs.Soundness.{IsSoundPending, IsSound}
use Rattle.spec_blocks.proofs.Sound.{SameCommittees, all_pending_stay}

added : (P : PendingAttestation → Type 0) (list : List PendingAttestation) (a : PendingAttestation) → AllByRecursion P list → P a → AllByRecursion P (list ++ a ∷ [])
added P [] a all one = (one, tt)
added P (b ∷ list) a all one = (all.0, added P list a all.1 one)

-- with one of the current epoch
pub current_sound : (s : PlainState) (a : PendingAttestation) → IsSoundPending s (get_current_epoch s) a → IsSound s → IsSound (record s { current_epoch_attestations = s.current_epoch_attestations ++ a ∷ [] })
unfolding get_current_epoch get_previous_epoch get_active_validator_indices get_randao_mix
current_sound s a one sound =
    let t : PlainState = record s { current_epoch_attestations = s.current_epoch_attestations ++ a ∷ [] } in
    let same : (epoch : ℕ) → SameCommittees s t epoch = λ epoch. record { preset = refl; active = refl; seed = refl } in
    record {
      balances = sound.balances;
      header = sound.header;
      previous_justified = sound.previous_justified;
      current_justified = sound.current_justified;
      finalized = sound.finalized;
      previous_attestations = all_pending_stay s t (get_previous_epoch s) (same _) (omega arith) (omega arith) s.previous_epoch_attestations sound.previous_attestations;
      current_attestations = all_pending_stay s t (get_current_epoch s) (same _) (omega arith) (omega arith) (s.current_epoch_attestations ++ a ∷ []) (added _ s.current_epoch_attestations a sound.current_attestations one);
      none_before = sound.none_before;
    }

-- and one of the previous epoch, which isn't the current one
pub previous_sound : (s : PlainState) (a : PendingAttestation) → IsSoundPending s (get_previous_epoch s) a → (get_current_epoch s ≡ 0 → ⊥) → IsSound s → IsSound (record s { previous_epoch_attestations = s.previous_epoch_attestations ++ a ∷ [] })
unfolding get_current_epoch get_previous_epoch get_active_validator_indices get_randao_mix
previous_sound s a one later sound =
    let t : PlainState = record s { previous_epoch_attestations = s.previous_epoch_attestations ++ a ∷ [] } in
    let same : (epoch : ℕ) → SameCommittees s t epoch = λ epoch. record { preset = refl; active = refl; seed = refl } in
    record {
      balances = sound.balances;
      header = sound.header;
      previous_justified = sound.previous_justified;
      current_justified = sound.current_justified;
      finalized = sound.finalized;
      previous_attestations = all_pending_stay s t (get_previous_epoch s) (same _) (omega arith) (omega arith) (s.previous_epoch_attestations ++ a ∷ []) (added _ s.previous_epoch_attestations a sound.previous_attestations one);
      current_attestations = all_pending_stay s t (get_current_epoch s) (same _) (omega arith) (omega arith) s.current_epoch_attestations sound.current_attestations;
      none_before = λ first. absurd (later first);
    }
