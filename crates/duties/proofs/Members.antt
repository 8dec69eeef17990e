-- The committees of an epoch, slot by slot, are all of them in order.
use Rattle.std.proofs.Common.{◌≡◌, ◌<◌, ◌+◌, ◌*◌, ◌/◌, ◌%◌, ℕ, zero, suc, List, [], ◌∷◌, ◌++◌, map, length, refl, sym, ap, ap₂, ◌∙◌, arith}
use Rattle.std.specs.Prelude.{flat_map}
use Rattle.std.specs.List.{range_with_len}
use Rattle.std.proofs.lemmas.List.{map-append}
use Rattle.std.proofs.Math.Nat.{div-eq_of_lt-le, mod-eq_of_lt, mul-add-mod_self_right, mul_comm, suc-mul}
use Rattle.committees.specs.Committees.{compute_committee}
use Rattle.committees.proofs.Parts.{some_committees}
use Rattle.committees.proofs.Members.{stand_once}
use Rattle.spec_state.specs.declared.plain.PlainState.{PlainState}
use Rattle.spec_state.specs.Constants.{domain_beacon_attester}
use Rattle.spec_state.specs.Accessors.{get_active_validator_indices, get_beacon_committee, get_committee_count_per_slot, get_seed}
use Rattle.spec_state.proofs.ActiveIndices.{active_without_repeats}
use Rattle.duties.specs.Duties.{CommitteeDuty, StandOnceInDuties, committee_duties, slot_committees}

-- numbers in a row, shifted
shifted : {A : Type 0} (f g : ℕ → A) (a b n : ℕ) → ((j : ℕ) → j < n → f (a + j) ≡ g (b + j)) → map f (range_with_len a n) ≡ map g (range_with_len b n)
shifted f g a b zero same = refl
shifted {A} f g a b (suc n) same = ap₂ (λ (x : A) (y : List A). x ∷ y) (here (same 0 (omega arith))) (shifted f g (a + 1) (b + 1) n behind)
  where
    here : f (a + 0) ≡ g (b + 0) → f a ≡ g b
    here e = let x : a + 0 ≡ a = omega arith in let y : b + 0 ≡ b = omega arith in rw (x, y) at e

    behind : (j : ℕ) → j < n → f (a + 1 + j) ≡ g (b + 1 + j)
    behind j less = let x : a + 1 + j ≡ a + (j + 1) = omega arith in let y : b + 1 + j ≡ b + (j + 1) = omega arith in rw (x, y) (same (j + 1) (omega (arith, less)))

-- one row after the other
joined : (b m k : ℕ) → range_with_len b (m + k) ≡ range_with_len b m ++ range_with_len (b + m) k
joined b zero k = let x : 0 + k ≡ k = omega arith in let y : b + 0 ≡ b = omega arith in rw (x, y) refl
joined b (suc m) k =
    let x : suc m + k ≡ suc (m + k) = omega arith in
    let y : b + suc m ≡ b + 1 + m = omega arith in
    rw (x, y) (ap (λ (xs : List ℕ). b ∷ xs) (joined (b + 1) m k))

-- a table of n rows of m, row by row
rows : {A : Type 0} (g : ℕ → ℕ → A) (h : ℕ → A) (m a b n : ℕ) → ((i j : ℕ) → i < n → j < m → g (a + i) j ≡ h (b + (i * m + j)))
    → flat_map (λ s. map (g s) (range_with_len 0 m)) (range_with_len a n) ≡ map h (range_with_len b (n * m))
rows g h m a b zero same = let none : 0 * m ≡ 0 = omega arith in rw none refl
rows {A} g h m a b (suc n) same =
    ap₂ (λ (x y : List A). x ++ y) (shifted (g a) h 0 b m first) (rows g h m (a + 1) (b + m) n behind)
    ∙ sym (map-append h (range_with_len b m) (range_with_len (b + m) (n * m)))
    ∙ ap (map h) (sym (joined b m (n * m)) ∙ ap (range_with_len b) count)
  where
    count : m + n * m ≡ suc n * m
    count = omega (arith, suc-mul n m)

    first : (j : ℕ) → j < m → g a (0 + j) ≡ h (b + j)
    first j less =
        let w : a + 0 ≡ a = omega arith in
        let x : 0 + j ≡ j = omega arith in
        let y : 0 * m + j ≡ j = omega arith in
        rw x (rw (w, y) at (same 0 j (omega arith) less))

    behind : (i j : ℕ) → i < n → j < m → g (a + 1 + i) j ≡ h (b + m + (i * m + j))
    behind i j less low =
        let x : a + 1 + i ≡ a + (i + 1) = omega arith in
        let y : b + m + (i * m + j) ≡ b + ((i + 1) * m + j) = omega (arith, suc-mul i m) in
        rw (x, y) (same (i + 1) j (omega (arith, less)) low)

module _ (state : PlainState) (epoch : ℕ) where
  abbrev per_slot : ℕ
  per_slot = get_committee_count_per_slot state epoch

  abbrev slots : ℕ
  slots = state.preset.slots_per_epoch

  abbrev committee : ℕ → List ℕ
  committee k = compute_committee state.preset.shuffle_round_count (get_active_validator_indices state epoch) (get_seed state epoch domain_beacon_attester) k (per_slot * slots)

  -- the committee of a slot of the epoch and an index
  committee_is : (i j : ℕ) → i < slots → j < per_slot → get_beacon_committee state (epoch * slots + i) j ≡ committee (0 + (i * per_slot + j))
  unfolding get_beacon_committee
  committee_is i j less low =
      let of_epoch : (epoch * slots + i) / slots ≡ epoch = div-eq_of_lt-le slots (omega arith) (omega (arith, less, suc-mul epoch slots)) in
      let within : (epoch * slots + i) % slots ≡ i = mul-add-mod_self_right epoch slots i ∙ mod-eq_of_lt less in
      let from : 0 + (i * per_slot + j) ≡ i * per_slot + j = omega arith in
      rw (of_epoch, within, from) refl

  members_of_slot : (slot : ℕ) (n : List ℕ) → map (λ (duty : CommitteeDuty). duty.members) (map (λ index. record { slot = slot; index = index; members = get_beacon_committee state slot index }) n) ≡ map (get_beacon_committee state slot) n
  members_of_slot slot [] = refl
  members_of_slot slot (x ∷ n) = ap (λ (xs : List (List ℕ)). get_beacon_committee state slot x ∷ xs) (members_of_slot slot n)

  members_of : (n : List ℕ) → map (λ (duty : CommitteeDuty). duty.members) (flat_map (slot_committees state epoch) n) ≡ flat_map (λ slot. map (get_beacon_committee state slot) (range_with_len 0 per_slot)) n
  members_of [] = refl
  members_of (slot ∷ n) =
      map-append (λ (duty : CommitteeDuty). duty.members) (slot_committees state epoch slot) (flat_map (slot_committees state epoch) n)
      ∙ ap₂ (λ (x y : List (List ℕ)). x ++ y) (members_of_slot slot (range_with_len 0 per_slot)) (members_of n)

  all_are : map (λ (duty : CommitteeDuty). duty.members) (committee_duties state epoch) ≡ map committee (range_with_len 0 (per_slot * slots))
  unfolding committee_duties
  all_are =
      members_of (range_with_len (epoch * slots) slots)
      ∙ rows (get_beacon_committee state) committee per_slot (epoch * slots) 0 slots committee_is
      ∙ ap (λ n. map committee (range_with_len 0 n)) (mul_comm slots per_slot)

pub stand_once_in_duties : StandOnceInDuties
unfolding get_committee_count_per_slot
stand_once_in_duties state epoch preset =
    rw (all_are state epoch) (stand_once (get_active_validator_indices state epoch) (get_seed state epoch domain_beacon_attester) state.preset.shuffle_round_count (per_slot state epoch * state.preset.slots_per_epoch)
    (some_committees state.preset (length (get_active_validator_indices state epoch)) preset) (active_without_repeats state epoch))
