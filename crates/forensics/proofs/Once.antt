-- No attester of an attestation stands twice in its list.
use Rattle.std.proofs.Common.{◌≡◌, ◌∙◌, ℕ, suc, ◌+◌, ◌*◌, ◌%◌, ◌<◌, ◌≤◌, Bool, true, false, cond, ◌==◌, List, [], ◌∷◌, map, length, slice_index, slice_index_or, refl, sym, ap, subst, arith}
use Rattle.std.specs.List.{All, count_by, range_with_len}
use Rattle.std.proofs.lemmas.Bool.{eqb-true}
use Rattle.std.proofs.lemmas.List.Sums.{sum_by-cons}
use Rattle.std.proofs.lemmas.List.Elements.{All-nil, All-cons, All-tail}
use Rattle.std.proofs.lemmas.List.FromFn.{length-map-range_with_len, get_or-map-range_with_len}
use Rattle.std.proofs.Math.Nat.{mul-le-mul_right}
use Rattle.bc_preset.specs.Presets.{IsPreset}
use Rattle.bc_preset.proofs.Bounds.{preset_bounds}
use Rattle.committees.specs.Committees.{StandOnce as StandOnceIn, compute_committee}
use Rattle.committees.proofs.Members.{stand_once}
use Rattle.committees.proofs.Parts.{some_committees}
use Rattle.beacon_types.specs.declared.attestation.Attestation.{Attestation}
use Rattle.spec_state.specs.declared.plain.PlainState.{PlainState}
use Rattle.spec_state.specs.Constants.{domain_beacon_attester}
use Rattle.spec_state.specs.Misc.{compute_epoch_at_slot}
use Rattle.spec_state.specs.Accessors.{get_active_validator_indices, get_seed, get_committee_count_per_slot, get_beacon_committee, get_attesting_indices, members_with_bits}
use Rattle.spec_state.proofs.ActiveIndices.{active_without_repeats}
use Rattle.spec_forensics.specs.CarriedVotes.{WasProcessed}
use Rattle.forensics.specs.Room.{all_of, StandOnce}
use Rattle.forensics.specs.inside.BlockVotes.{attesters_in}

-- ---- those with bits are some of the members

one_more : (m v : ℕ) (xs : List ℕ) → count_by (λ a. a == v) (m ∷ xs) ≡ cond (m == v) 1 0 + count_by (λ a. a == v) xs
one_more m v xs = sum_by-cons (λ x. cond (x == v) 1 0) m xs

few_with_bits : (members : List ℕ) (bits : List Bool) (v : ℕ) → count_by (λ a. a == v) (members_with_bits members bits) ≤ count_by (λ a. a == v) members
unfolding members_with_bits
few_with_bits [] bits v = omega arith
few_with_bits (m ∷ members) [] v = omega arith
few_with_bits (m ∷ members) (true ∷ bits) v =
    let h = few_with_bits members bits v in
    let e = one_more m v members in
    let f = one_more m v (members_with_bits members bits) in
    omega arith
few_with_bits (m ∷ members) (false ∷ bits) v =
    let h = few_with_bits members bits v in
    let e = one_more m v members in
    omega arith

-- ---- a list without repeats has each once

counted_by : (b : Bool) (x v : ℕ) (xs : List ℕ) → (x == v) ≡ b → count_by (λ a. a == v) (x ∷ xs) ≡ cond b 1 0 + count_by (λ a. a == v) xs
counted_by b x v xs is = one_more x v xs ∙ ap (λ t. cond t 1 0 + count_by (λ a. a == v) xs) is

none_here : (b : Bool) (x v : ℕ) (xs : List ℕ) → (x == v) ≡ b → (x ≡ v → ⊥) → count_by (λ a. a == v) xs ≡ 0 → count_by (λ a. a == v) (x ∷ xs) ≡ 0
none_here true x v xs is none rest = absurd (none (eqb-true x v is))
none_here false x v xs is none rest = let e = counted_by false x v xs is in omega arith

absent_none : (xs : List ℕ) (v : ℕ) → ((i : ℕ) → i < length xs → slice_index xs i ≡ v → ⊥) → count_by (λ a. a == v) xs ≡ 0
absent_none [] v none = refl
absent_none (x ∷ xs) v none = none_here (x == v) x v xs refl (none 0 (omega arith)) (absent_none xs v (λ i less. none (suc i) (omega arith)))

one_here : (b : Bool) (x v : ℕ) (xs : List ℕ) → (x == v) ≡ b → (x ≡ v → count_by (λ a. a == v) xs ≡ 0) → count_by (λ a. a == v) xs ≤ 1 → count_by (λ a. a == v) (x ∷ xs) ≤ 1
one_here true x v xs is none rest = let e = counted_by true x v xs is in let n = none (eqb-true x v is) in omega arith
one_here false x v xs is none rest = let e = counted_by false x v xs is in omega arith

one_each : (xs : List ℕ) (v : ℕ) → ((i j : ℕ) → i < length xs → j < length xs → slice_index xs i ≡ slice_index xs j → i ≡ j) → count_by (λ a. a == v) xs ≤ 1
one_each [] v once = omega arith
one_each (x ∷ xs) v once =
    one_here (x == v) x v xs refl
    (λ same. absent_none xs v (λ i less at. let e : 0 ≡ suc i = once 0 (suc i) (omega arith) (omega arith) (same ∙ sym at) in omega arith))
    (one_each xs v (λ i j a b at. let e : suc i ≡ suc j = once (suc i) (suc j) (omega arith) (omega arith) at in omega arith))

-- ---- a committee has each member once

within : (position slots per_slot index : ℕ) → position < slots → index < per_slot → position * per_slot + index < per_slot * slots
within position slots per_slot index low less =
    let h : suc position * per_slot ≤ slots * per_slot = mul-le-mul_right per_slot low in
    omega (arith, h)

committee_once : (state : PlainState) (slot index : ℕ) → IsPreset state.preset → index < get_committee_count_per_slot state (compute_epoch_at_slot state.preset slot) → (v : ℕ) → count_by (λ a. a == v) (get_beacon_committee state slot index) ≤ 1
unfolding get_committee_count_per_slot get_beacon_committee
committee_once state slot index preset less v =
    let epoch : ℕ = compute_epoch_at_slot state.preset slot in
    let per_slot : ℕ = get_committee_count_per_slot state epoch in
    let slots : ℕ = state.preset.slots_per_epoch in
    let count : ℕ = per_slot * slots in
    let k : ℕ = slot % slots * per_slot + index in
    let active : List ℕ = get_active_validator_indices state epoch in
    let seed : List ℕ = get_seed state epoch domain_beacon_attester in
    let rounds : ℕ = state.preset.shuffle_round_count in
    let all : List (List ℕ) = map (λ n. compute_committee rounds active seed n count) (range_with_len 0 count) in
    let least : 8 ≤ slots = (preset_bounds state.preset preset).least_slots_per_epoch in
    let inside : k < count = within (slot % slots) slots per_slot index (omega arith) less in
    let stand : StandOnceIn active all = stand_once active seed rounds count (some_committees state.preset (length active) preset) (active_without_repeats state epoch) in
    let is : slice_index_or all k [] ≡ compute_committee rounds active seed k count = get_or-map-range_with_len _ 0 count k k [] inside (omega arith) in
    let in_all : k < length all = omega (arith, length-map-range_with_len (λ n. compute_committee rounds active seed n count) 0 count) in
    subst (λ (c : List ℕ). count_by (λ a. a == v) c ≤ 1) is
    (one_each (slice_index_or all k []) v (λ i j a b same. (stand.once k i k j (slice_index (slice_index_or all k []) j) (record { committee = in_all; place_in = a; member_is = same }) (record { committee = in_all; place_in = b; member_is = refl })).1))

-- ---- the attesters of an attestation, and of all

pub once : (state : PlainState) (a : Attestation) → IsPreset state.preset → WasProcessed state a → (v : ℕ) → all_of (attesters_in state a) v ≤ 1
unfolding all_of attesters_in get_attesting_indices
once state a preset was v =
    let few = few_with_bits (get_beacon_committee state a.content.slot a.content.index) a.aggregation_bits v in
    let one = committee_once state a.content.slot a.content.index preset was.index v in
    omega arith

each_once : (state : PlainState) (attestations : List Attestation) → IsPreset state.preset → All (WasProcessed state) attestations → All (λ attesters. (v : ℕ) → all_of attesters v ≤ 1) (map (attesters_in state) attestations)
each_once state [] preset all = All-nil (λ attesters. (v : ℕ) → all_of attesters v ≤ 1)
each_once state (a ∷ attestations) preset all = All-cons (λ attesters. (v : ℕ) → all_of attesters v ≤ 1) (attesters_in state a) _ (once state a preset (all 0 a (omega arith))) (each_once state attestations preset (All-tail (WasProcessed state) a attestations all))

pub all_once : (state : PlainState) (attestations : List Attestation) (lists : List (List ℕ)) → IsPreset state.preset → All (WasProcessed state) attestations → lists ≡ map (attesters_in state) attestations → StandOnce lists
all_once state attestations lists preset all is = record { once = subst (All (λ attesters. (v : ℕ) → all_of attesters v ≤ 1)) (sym is) (each_once state attestations preset all) }
