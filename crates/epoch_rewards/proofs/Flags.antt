-- Those whose flag is set are the attesters.
use Rattle.std.proofs.Common.{◌≡◌, ℕ, suc, ◌+◌, ◌<◌, ◌≤◌, Bool, true, false, not, cond, List, [], ◌∷◌, length, filter, get_or, refl, ap, ◌∙◌, arith}
use Rattle.std.specs.List.{list_any}
use Rattle.std.proofs.lemmas.List.FromFn.{get_or-map-range_with_len}
use Rattle.beacon_types.specs.declared.pending_attestation.PendingAttestation.{PendingAttestation}
use Rattle.beacon_types.specs.declared.validator.Validator.{Validator}
use Rattle.spec_state.specs.declared.plain.PlainState.{PlainState}
use Rattle.spec_state.specs.Accessors.{indices_from}
use Rattle.spec_epochs.specs.Each.{validator_indices}
use Rattle.spec_epochs.specs.Helpers.{attests, get_unslashed_attesting_indices}
use Rattle.epoch_rewards.specs.inside.Marks.{attester_flags, flagged, flagged_from}

at_attester_flags : (state : PlainState) (attestations : List PendingAttestation) (k : ℕ) → k < length state.validators → get_or (attester_flags state attestations) k false ≡ list_any (attests state k) attestations
unfolding attester_flags validator_indices
at_attester_flags state attestations k less = get_or-map-range_with_len (λ index. list_any (attests state index) attestations) 0 (length state.validators) k k false less (omega arith)

both : (b : Bool) (p q : ℕ → Bool) (x : ℕ) (xs : List ℕ) → p x ≡ q x → filter p xs ≡ filter q xs → filter p (cond b (x ∷ xs) xs) ≡ filter q (cond b (x ∷ xs) xs)
both true p q x xs here rest = ap (λ b. cond b (x ∷ filter p xs) (filter p xs)) here ∙ ap (λ ys. cond (q x) (x ∷ ys) ys) rest
both false p q x xs here rest = rest

same_filter : (p q : ℕ → Bool) (test : Validator → Bool) (start end : ℕ) (validators : List Validator) → end ≡ start + length validators → ((k : ℕ) → start ≤ k → k < end → p k ≡ q k) → filter p (indices_from test start validators) ≡ filter q (indices_from test start validators)
unfolding indices_from
same_filter p q test start end [] e same = refl
same_filter p q test start end (v ∷ validators) e same =
    let here : p start ≡ q start = same start (omega arith) (omega arith) in
    let rest : filter p (indices_from test (suc start) validators) ≡ filter q (indices_from test (suc start) validators) = same_filter p q test (suc start) end validators (omega arith) (λ k more less. same k (omega arith) less) in
    both (test v) p q start (indices_from test (suc start) validators) here rest

pub flagged_are : (state : PlainState) (attestations : List PendingAttestation) → flagged state (attester_flags state attestations) ≡ get_unslashed_attesting_indices state attestations
unfolding flagged flagged_from get_unslashed_attesting_indices
flagged_are state attestations =
    same_filter (λ i. get_or (attester_flags state attestations) i false) (λ index. list_any (attests state index) attestations) (λ v. not v.slashed) 0 (length state.validators) state.validators (omega arith)
    (λ k more less. at_attester_flags state attestations k less)
