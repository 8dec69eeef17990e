-- The registry of the state behind a block holds every index of the attestations that the block carries.
use Rattle.std.proofs.Common.{◌≡◌, ◌∙◌, ℕ, zero, suc, ◌+◌, ◌-◌, ◌*◌, ◌/◌, ◌<◌, ◌≤◌, ◌⊎◌, inl, inr, Bool, true, false, cond, List, [], ◌∷◌, ◌++◌, length, slice_index, refl, sym, ap, subst, arith}
use Rattle.std.specs.List.{All, range_with_len}
use Rattle.beacon_types.specs.declared.attestation_data.AttestationData.{AttestationData}
use Rattle.beacon_types.specs.declared.validator.Validator.{Validator}
use Rattle.beacon_types.specs.declared.attester_slashing.AttesterSlashing.{AttesterSlashing}
use Rattle.committees.specs.Shuffling.{compute_shuffled_index}
use Rattle.committees.specs.Committees.{committee_start, compute_committee}
use Rattle.spec_state.specs.declared.plain.PlainState.{PlainState}
use Rattle.spec_state.specs.Misc.{compute_epoch_at_slot}
use Rattle.spec_state.specs.Predicates.{is_active_validator}
use Rattle.spec_state.specs.Accessors.{indices_from, get_active_validator_indices, get_beacon_committee, get_attesting_indices, members_with_bits}
use Rattle.ffg_law.specs.Links.{IsOneOf}
use Rattle.spec_forensics.specs.Histories.{AcceptedBlock}
use Rattle.spec_slasher.specs.GetIndexedAttestation.{get_indexed_attestation}
use Rattle.spec_slasher.specs.AttestationOf.{CarriedAttestation, all_attestations, indexed}
use Rattle.spec_slasher.specs.Operations.{operations}
use Rattle.spec_slasher.specs.Accepts.{IsHeld}
use Rattle.spec_slasher.proofs.Lists.{all_are, each_is, of_map, of_order}
use Rattle.spec_slasher.proofs.Named.{attesters_of}
use Rattle.spec_slasher.proofs.Operations.{operation_is}
use Rattle.spec_slasher.proofs.Stands.{stands}

below_either : (p : Bool) (low n i : ℕ) (xs : List ℕ) → (IsOneOf i xs → i < low + 1 + n) → IsOneOf i (cond p (low ∷ xs) xs) → i < low + suc n
below_either true low n i xs rest (inl e) = omega (arith, e)
below_either true low n i xs rest (inr h) = let less = rest h in omega (arith, less)
below_either false low n i xs rest h = let less = rest h in omega (arith, less)

below_end : (test : Validator → Bool) (low : ℕ) (vs : List Validator) (i : ℕ) → IsOneOf i (indices_from test low vs) → i < low + length vs
unfolding indices_from
below_end test low [] i h = absurd h
below_end test low (v ∷ vs) i h = below_either (test v) low (length vs) i (indices_from test (suc low) vs) (λ k. let less = below_end test (suc low) vs i k in omega (arith, less)) h

-- what stands at an index, or else 0, is below a bound
index_below : (n : ℕ) (xs : List ℕ) (k : ℕ) → 0 < n → ((i : ℕ) → IsOneOf i xs → i < n) → slice_index xs k < n
index_below n [] k some low = some
index_below n (x ∷ xs) zero some low = low x (inl refl)
index_below n (x ∷ xs) (suc k) some low = index_below n xs k some (λ i h. low i (inr h))

empty_range : (a n i : ℕ) → n ≡ 0 → IsOneOf i (range_with_len a n) → ⊥
empty_range a zero i is h = h
empty_range a (suc n) i is h = omega (arith, is)

same_zero : (a b count : ℕ) → 0 * b / count - 0 * a / count ≡ 0
same_zero a b count = let x : 0 * b ≡ 0 = omega arith in let y : 0 * a ≡ 0 = omega arith in ap (λ (k : ℕ). k / count - 0 * a / count) x ∙ (ap (λ (k : ℕ). 0 / count - k / count) y ∙ omega arith)

committee_below : (n rounds : ℕ) (active seed : List ℕ) (index count i : ℕ) → ((k : ℕ) → IsOneOf k active → k < n) → IsOneOf i (compute_committee rounds active seed index count) → i < n
unfolding compute_committee committee_start
committee_below n rounds [] seed index count i low h =
    let m = of_map _ i (range_with_len (0 * index / count) (0 * (index + 1) / count - 0 * index / count)) h in
    absurd (empty_range (0 * index / count) (0 * (index + 1) / count - 0 * index / count) m.at (same_zero index (index + 1) count) m.listed)
committee_below n rounds (a ∷ active) seed index count i low h =
    let all : List ℕ = a ∷ active in
    let m = of_map (λ k. slice_index all (compute_shuffled_index rounds k (length all) seed)) i _ h in
    let one = low a (inl refl) in
    subst (λ (k : ℕ). k < n) m.is (index_below n all (compute_shuffled_index rounds m.at (length all) seed) (omega (arith, one)) low)

of_member : (b : Bool) (i m : ℕ) (rest : List ℕ) → IsOneOf i (cond b (m ∷ rest) rest) → (m ≡ i) ⊎ IsOneOf i rest
of_member true i m rest h = h
of_member false i m rest h = inr h

of_members : (i : ℕ) (members : List ℕ) (bits : List Bool) → IsOneOf i (members_with_bits members bits) → IsOneOf i members
unfolding members_with_bits
of_members i [] bits h = absurd h
of_members i (m ∷ members) [] h = absurd h
of_members i (m ∷ members) (b ∷ bits) h = elim (of_member b i m (members_with_bits members bits) h) [ inl e ↦ inl e | inr more ↦ inr (of_members i members bits more) ]

-- attesters are in the registry
pub attester_below : (s : PlainState) (voted : AttestationData) (bits : List Bool) (i : ℕ) → IsOneOf i (get_attesting_indices s voted bits) → i < length s.validators
unfolding get_attesting_indices get_beacon_committee get_active_validator_indices
attester_below s voted bits i h =
    let epoch : ℕ = compute_epoch_at_slot s.preset voted.slot in
    committee_below (length s.validators) s.preset.shuffle_round_count (get_active_validator_indices s epoch) _ _ _ i
    (λ k active. let low = below_end (λ v. is_active_validator v epoch) 0 s.validators k active in omega (arith, low)) (of_members i _ bits h)

-- where no state behind a block has a longer registry, every index is held
pub operation_held : (genesis : PlainState) (first second : List AcceptedBlock) (operation : AttesterSlashing) (s : PlainState) → All (λ (b : AcceptedBlock). length b.state.validators ≤ length s.validators) (first ++ second)
    → IsOneOf operation (operations genesis first second) → IsHeld s operation
unfolding indexed get_indexed_attestation attesters_of
operation_held genesis first second operation s none_longer h =
    let w = (operation_is genesis first second operation h).what in
    let below = λ (c : CarriedAttestation) (listed : IsOneOf c (all_attestations first second)) (i : ℕ) (k : IsOneOf i (attesters_of c)).
    let low = attester_below c.accepted.state c.attestation.content c.attestation.aggregation_bits i k in
    let long = each_is (λ (b : AcceptedBlock). length b.state.validators ≤ length s.validators) (first ++ second) none_longer c.accepted (stands first second c listed).accepted in
    let out : i < length s.validators = omega (arith, low, long) in out in
    subst (IsHeld s) (sym w.is) (record {
      first = all_are (λ (i : ℕ). i < length s.validators) (indexed w.one).attesting_indices (λ i k. below w.one w.one_listed i (of_order i (attesters_of w.one) k));
      second = all_are (λ (i : ℕ). i < length s.validators) (indexed w.other).attesting_indices (λ i k. below w.other w.other_listed i (of_order i (attesters_of w.other) k));
    })

pub all_held : (genesis : PlainState) (first second : List AcceptedBlock) (s : PlainState) → All (λ (b : AcceptedBlock). length b.state.validators ≤ length s.validators) (first ++ second) → All (IsHeld s) (operations genesis first second)
all_held genesis first second s none_longer = all_are (IsHeld s) (operations genesis first second) (λ operation h. operation_held genesis first second operation s none_longer h)
