-- Who attests is in the committee, and who is in the committee is active.
use Rattle.std.proofs.Common.{◌≡◌, ℕ, zero, suc, ◌+◌, ◌-◌, ◌*◌, ◌/◌, ◌%◌, ◌<◌, ◌≤◌, inl, inr, Bool, true, false, ◌==◌, List, [], ◌∷◌, length, map, slice_index, refl, subst, arith}
use Rattle.std.specs.List.{range_with_len, list_any}
use Rattle.std.proofs.lemmas.Bool.{eqb-true}
use Rattle.std.proofs.Math.Nat.{mod-lt, mul-le-mul_left}
use Rattle.bc_preset.specs.laws.Bounds.{HasPresetBounds}
use Rattle.beacon_types.specs.declared.attestation_data.AttestationData.{AttestationData}
use Rattle.beacon_types.specs.declared.pending_attestation.PendingAttestation.{PendingAttestation}
use Rattle.committees.specs.Shuffling.{compute_shuffled_index}
use Rattle.committees.proofs.Rounds.{place_below}
use Rattle.committees.specs.Committees.{committee_start, compute_committee}
use Rattle.committees.proofs.Parts.{first_fits}
use Rattle.spec_state.specs.declared.plain.PlainState.{PlainState}
use Rattle.spec_state.specs.Misc.{compute_epoch_at_slot}
use Rattle.spec_state.specs.Accessors.{get_active_validator_indices, get_committee_count_per_slot, get_beacon_committee, get_attesting_indices, members_with_bits}
use Rattle.spec_epochs.specs.Each.{is_among}
use Rattle.spec_epochs.specs.Helpers.{attests}
use Rattle.ffg_law.specs.Links.{IsOneOf}

-- ---- lists

-- the item at an index is one of the list
pub listed_at : (xs : List ℕ) (i : ℕ) → i < length xs → IsOneOf (slice_index xs i) xs
listed_at [] i less = absurd (omega arith)
listed_at (x ∷ xs) zero less = inl refl
listed_at (x ∷ xs) (suc i) less = inr (listed_at xs i (omega arith))

-- an item of what was made of a range
record Made (f : ℕ → ℕ) (low n i : ℕ) : Type 0 where
  at : ℕ
  from : low ≤ at
  to : at < low + n
  is : f at ≡ i

made_of : (f : ℕ → ℕ) (low n i : ℕ) → IsOneOf i (map f (range_with_len low n)) → Made f low n i
made_of f low zero i one = absurd one
made_of f low (suc n) i (inl e) = record { at = low; from = omega arith; to = omega arith; is = e }
made_of f low (suc n) i (inr one) = let later = made_of f (low + 1) n i one in let from = later.from in let to = later.to in record { at = later.at; from = omega arith; to = omega arith; is = later.is }

-- ---- committees

in_committee : (rounds : ℕ) (active seed : List ℕ) (index count i : ℕ) → index < count → IsOneOf i (compute_committee rounds active seed index count) → IsOneOf i active
unfolding compute_committee committee_start
in_committee rounds active seed index count i less one =
    let n : ℕ = length active in
    let start : ℕ = n * index / count in
    let end : ℕ = n * (index + 1) / count in
    let made = made_of (λ k. slice_index active (compute_shuffled_index rounds k n seed)) start (end - start) i one in
    let from = made.from in
    let to = made.to in
    let low : end ≤ n = first_fits n count (index + 1) (omega arith) (omega arith) in
    subst (λ (k : ℕ). IsOneOf k active) made.is (listed_at active (compute_shuffled_index rounds made.at n seed) (place_below seed n rounds made.at (omega arith)))

-- the number of a committee in its epoch
in_epoch : (place count per_slot slots index : ℕ) → place < slots → index < per_slot → place * per_slot + index < per_slot * slots
in_epoch place count per_slot slots index some few =
    omega (arith, mul-le-mul_left {m = place + 1} {n = slots} per_slot (omega arith))

pub member_is_active : (s : PlainState) (slot index i : ℕ) → HasPresetBounds s.preset → index < get_committee_count_per_slot s (compute_epoch_at_slot s.preset slot) → IsOneOf i (get_beacon_committee s slot index)
    → IsOneOf i (get_active_validator_indices s (compute_epoch_at_slot s.preset slot))
unfolding get_beacon_committee
member_is_active s slot index i bounds few one =
    let per_slot : ℕ = get_committee_count_per_slot s (compute_epoch_at_slot s.preset slot) in
    in_committee s.preset.shuffle_round_count _ _ (slot % s.preset.slots_per_epoch * per_slot + index) (per_slot * s.preset.slots_per_epoch) i
    (in_epoch (slot % s.preset.slots_per_epoch) 0 per_slot s.preset.slots_per_epoch index (mod-lt slot (omega (arith, bounds.least_slots_per_epoch))) few) one

with_bits : (committee : List ℕ) (bits : List Bool) (i : ℕ) → IsOneOf i (members_with_bits committee bits) → IsOneOf i committee
unfolding members_with_bits
with_bits [] bits i one = absurd one
with_bits (member ∷ committee) [] i one = absurd one
with_bits (member ∷ committee) (true ∷ bits) i (inl e) = inl e
with_bits (member ∷ committee) (true ∷ bits) i (inr one) = inr (with_bits committee bits i one)
with_bits (member ∷ committee) (false ∷ bits) i one = inr (with_bits committee bits i one)

pub attester_is_active : (s : PlainState) (voted : AttestationData) (bits : List Bool) (i : ℕ) → HasPresetBounds s.preset → voted.index < get_committee_count_per_slot s (compute_epoch_at_slot s.preset voted.slot)
    → IsOneOf i (get_attesting_indices s voted bits) → IsOneOf i (get_active_validator_indices s (compute_epoch_at_slot s.preset voted.slot))
unfolding get_attesting_indices
attester_is_active s voted bits i bounds few one = member_is_active s voted.slot voted.index i bounds few (with_bits (get_beacon_committee s voted.slot voted.index) bits i one)

-- ---- who attests in a list

any_first : (x : ℕ) (xs : List ℕ) (i : ℕ) (b : Bool) → (x == i) ≡ b → list_any (λ other. other == i) (x ∷ xs) ≡ true → (list_any (λ other. other == i) xs ≡ true → IsOneOf i xs) → IsOneOf i (x ∷ xs)
any_first x xs i true is one rest = inl (eqb-true x i is)
any_first x xs i false is one rest = inr (rest (rw is at one))

any_is : (xs : List ℕ) (i : ℕ) → list_any (λ other. other == i) xs ≡ true → IsOneOf i xs
any_is [] i one = absurd (cc)
any_is (x ∷ xs) i one = any_first x xs i (x == i) refl one (any_is xs i)

pub attests_is : (s : PlainState) (i : ℕ) (a : PendingAttestation) → attests s i a ≡ true → IsOneOf i (get_attesting_indices s a.content a.aggregation_bits)
unfolding attests is_among
attests_is s i a one = any_is (get_attesting_indices s a.content a.aggregation_bits) i one

pub record Attested (s : PlainState) (i : ℕ) (list : List PendingAttestation) : Type 0 where
  pub attestation : PendingAttestation
  pub listed : IsOneOf attestation list
  pub attests : IsOneOf i (get_attesting_indices s attestation.content attestation.aggregation_bits)

attested_first : (s : PlainState) (i : ℕ) (a : PendingAttestation) (list : List PendingAttestation) (b : Bool) → attests s i a ≡ b → list_any (attests s i) (a ∷ list) ≡ true → (list_any (attests s i) list ≡ true → Attested s i list) → Attested s i (a ∷ list)
attested_first s i a list true is one rest = record { attestation = a; listed = inl refl; attests = attests_is s i a is }
attested_first s i a list false is one rest = let later = rest (rw is at one) in record { attestation = later.attestation; listed = inr later.listed; attests = later.attests }

pub attested_of : (s : PlainState) (i : ℕ) (list : List PendingAttestation) → list_any (attests s i) list ≡ true → Attested s i list
attested_of s i [] one = absurd (cc)
attested_of s i (a ∷ list) one = attested_first s i a list (attests s i a) refl one (attested_of s i list)
