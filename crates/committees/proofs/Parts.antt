-- The parts into which a list of members is cut.
use Rattle.std.proofs.Common.{◌≡◌, ℕ, zero, suc, ◌+◌, ◌-◌, ◌*◌, ◌/◌, ◌<◌, ◌≤◌, List, [], length, drop, map, get_or, slice_index, slice_range, slice_get, Some, None, refl, ap, ◌∙◌, subst, arith, inl, inr}
use Rattle.std.specs.List.{range_with_len, sum_by}
use Rattle.std.proofs.lemmas.Bool.{cases_lt}
use Rattle.std.proofs.lemmas.Nat.{le-div}
use Rattle.std.proofs.lemmas.Option.{slice_get-get_or, slice_get_past}
use Rattle.std.proofs.lemmas.List.{length-take-le, length-drop}
use Rattle.std.proofs.lemmas.List.FromFn.{length-map-range_with_len, get_or-map-range_with_len, take-map-range_with_len, sum_by-map-range_with_len_more, fill_by_all}
use Rattle.std.proofs.Math.Nat.{div-mul-le_self, zero-div, mul-div_cancel, mul-le-mul_left, one-le-mul}
use Rattle.bc_preset.specs.declared.presets.Preset.{Preset}
use Rattle.bc_preset.specs.Presets.{IsPreset}
use Rattle.bc_preset.proofs.Bounds.{preset_bounds}
use Rattle.committees.specs.Shuffling.{compute_shuffled_index, shuffled_list}
use Rattle.committees.specs.Committees.{Committees, committees_of, committee_count_per_slot, committee_start, compute_committee, member_count}
use Rattle.committees.specs.inside.Split.{split_evenly, split_committees}

module _ (members count : ℕ) (some : 0 < count) where
  pub first_monotone : (k later : ℕ) → k ≤ later → committee_start members count k ≤ committee_start members count later
  unfolding committee_start
  first_monotone k later order =
      le-div _ (members * later) count some (omega (arith, div-mul-le_self (members * k) count, mul-le-mul_left members order))

  pub first_zero : committee_start members count 0 ≡ 0
  unfolding committee_start
  first_zero = let e : members * 0 ≡ 0 = omega arith in rw e (zero-div count)

  pub first_all : committee_start members count count ≡ members
  unfolding committee_start
  first_all = mul-div_cancel members some

  pub first_within : (k : ℕ) → k ≤ count → committee_start members count k ≤ members
  first_within k order = omega (arith, first_monotone k count order, first_all)

-- what the code computes fits, and lies within the list
pub first_fits : (members count k : ℕ) → 0 < count → k ≤ count → members * k / count ≤ members
unfolding committee_start
first_fits members count k some order = first_within members count some k order

-- the part in which a place lies
pub part_of : (first : ℕ → ℕ) (count place : ℕ) → first 0 ≤ place → place < first count → (k : ℕ) × (k < count) × (first k ≤ place) × (place < first (suc k))
part_of first zero place low high = absurd (omega arith)
part_of first (suc count) place low high = elim (cases_lt place (first count)) [
  | inl less ↦ let p = part_of first count place low less in (p.0, omega (arith, p.1), p.2, p.3)
  | inr more ↦ (count, omega arith, more, high)
]

drop_range : {X : Type 0} (f : ℕ → X) (a n k : ℕ) → drop k (map f (range_with_len a n)) ≡ map f (range_with_len (a + k) (n - k))
drop_range f a n zero =
    let e : a + 0 ≡ a = omega arith in
    let m : n - 0 ≡ n = omega arith in
    rw (e, m) refl
drop_range f a zero (suc k) = let m : 0 - suc k ≡ 0 = omega arith in rw m refl
drop_range f a (suc n) (suc k) =
    let e : a + 1 + k ≡ a + suc k = omega arith in
    let m : n - k ≡ suc n - suc k = omega arith in
    rw (← e, ← m) (drop_range f (a + 1) n k)

pub range_of_range : {X : Type 0} (f : ℕ → X) (n low high : ℕ) → low ≤ high → high ≤ n → slice_range (map f (range_with_len 0 n)) low high ≡ map f (range_with_len low (high - low))
range_of_range f n low high order within =
    let e : 0 + low ≡ low = omega arith in
    rw (drop_range f 0 n low, e) (take-map-range_with_len f low (n - low) (high - low) (omega arith))

abbrev with_all : ℕ → ℕ → List (List ℕ) → Committees
with_all per_slot slots all = record { per_slot = per_slot; slots = slots; all = all }

module _ (active seed : List ℕ) (rounds : ℕ) where
  shuffled_length : length (shuffled_list seed rounds active) ≡ length active
  unfolding shuffled_list
  shuffled_length = length-map-range_with_len _ 0 (length active)

module _ (active seed : List ℕ) (rounds count : ℕ) (some : 0 < count) where
  part_is : (k : ℕ) → k < count → slice_range (shuffled_list seed rounds active) (committee_start (length active) count k) (committee_start (length active) count (k + 1)) ≡ compute_committee rounds active seed k count
  unfolding shuffled_list compute_committee
  part_is k less =
      range_of_range (λ place. slice_index active (compute_shuffled_index rounds place (length active) seed)) (length active) _ _
      (first_monotone (length active) count some k (k + 1) (omega arith))
      (first_within (length active) count some (k + 1) (omega arith))

  -- the shuffled list, cut, is the committees
  pub cut_is : split_evenly (shuffled_list seed rounds active) count ≡ map (λ k. compute_committee rounds active seed k count) (range_with_len 0 count)
  unfolding split_evenly
  cut_is =
      rw (shuffled_length active seed rounds) (fill_by_all (λ k. compute_committee rounds active seed k count) _ count []
      (length-map-range_with_len _ 0 count)
      (λ k less. get_or-map-range_with_len _ 0 count k k [] less (omega arith) ∙ part_is k less))

-- what a list of committees is made of, where the code keeps it as one list
pub whole_is : (preset : Preset) (seed active members : List ℕ) (per_slot : ℕ) → per_slot ≡ committee_count_per_slot preset (length active) → members ≡ shuffled_list seed preset.shuffle_round_count active → 1 ≤ per_slot → 1 ≤ preset.slots_per_epoch → split_committees per_slot preset.slots_per_epoch members ≡ committees_of preset seed active
unfolding committees_of
whole_is preset seed active members per_slot per_slot_is members_is some slots =
    rw (members_is, ← per_slot_is)
    (ap (with_all per_slot preset.slots_per_epoch)
    (cut_is active seed preset.shuffle_round_count (per_slot * preset.slots_per_epoch) (one-le-mul some slots)))

pub shuffled_fits : (seed active members : List ℕ) (rounds : ℕ) → members ≡ shuffled_list seed rounds active → length members ≡ length active
shuffled_fits seed active members rounds is = ap length is ∙ shuffled_length active seed rounds

module _ (members : List ℕ) (count : ℕ) where
  cut_length : length (split_evenly members count) ≡ count
  unfolding split_evenly
  cut_length = length-map-range_with_len _ 0 count

  pub at_past : (k : ℕ) → count ≤ k → slice_get (split_evenly members count) k ≡ None
  at_past k past = slice_get_past (split_evenly members count) k (omega (arith, cut_length))

  cut_at : (k : ℕ) → k < count → get_or (split_evenly members count) k [] ≡ slice_range members (committee_start (length members) count k) (committee_start (length members) count (k + 1))
  unfolding split_evenly
  cut_at k less = get_or-map-range_with_len _ 0 count k k [] less (omega arith)

  pub at_part : (k : ℕ) → k < count → slice_get (split_evenly members count) k ≡ Some (slice_range members (committee_start (length members) count k) (committee_start (length members) count (k + 1)))
  at_part k less = slice_get-get_or (split_evenly members count) k [] (omega (arith, cut_length)) ∙ ap Some (cut_at k less)

-- an epoch has a committee
pub some_committees : (preset : Preset) (active : ℕ) → IsPreset preset → 0 < committee_count_per_slot preset active * preset.slots_per_epoch
unfolding committee_count_per_slot
some_committees preset active is = one-le-mul (omega arith) (omega (arith, (preset_bounds preset is).least_slots_per_epoch))

-- ---- how many members parts have that follow one another

module _ (first : ℕ → ℕ) (part : ℕ → List ℕ) (count : ℕ)
    (ascend : (k : ℕ) → k < count → first k ≤ first (k + 1)) (length_is : (k : ℕ) → k < count → length (part k) ≡ first (k + 1) - first k) where
  parts_have : (n : ℕ) → n ≤ count → first 0 + sum_by (λ members. length members) (map part (range_with_len 0 n)) ≡ first n
  parts_have zero within = omega arith
  parts_have (suc n) within =
      let before = parts_have n (omega arith) in
      let more = sum_by-map-range_with_len_more (λ members. length members) part 0 n n (omega arith) in
      let e : n + 1 ≡ suc n = omega arith in
      subst (λ j. first 0 + sum_by (λ members. length members) (map part (range_with_len 0 j)) ≡ first j) e
      (omega (arith, before, more, length_is n (omega arith), ascend n (omega arith)))

length_range : (members : List ℕ) (low high : ℕ) → low ≤ high → high ≤ length members → length (slice_range members low high) ≡ high - low
length_range members low high order within = length-take-le (high - low) (drop low members) (omega (arith, length-drop low members))

module _ (members count : ℕ) (some : 0 < count) where
  whole_has : (part : ℕ → List ℕ) → ((k : ℕ) → k < count → length (part k) ≡ committee_start members count (k + 1) - committee_start members count k)
      → sum_by (λ committee. length committee) (map part (range_with_len 0 count)) ≡ members
  whole_has part length_is =
      omega (
        arith,
        first_zero members count some,
        first_all members count some,
        parts_have (committee_start members count) part count (λ k less. first_monotone members count some k (k + 1) (omega arith)) length_is count (omega arith),
      )

-- the committees have as many members as the list of which they are parts
pub cut_has : (members : List ℕ) (per_slot slots : ℕ) → 0 < per_slot * slots → member_count (split_committees per_slot slots members) ≡ length members
unfolding member_count split_evenly
cut_has members per_slot slots some =
    let first = committee_start (length members) (per_slot * slots) in
    whole_has (length members) (per_slot * slots) some (λ k. slice_range members (first k) (first (k + 1)))
    (λ k less. length_range members (first k) (first (k + 1))
    (first_monotone (length members) (per_slot * slots) some k (k + 1) (omega arith)) (first_within (length members) (per_slot * slots) some (k + 1) (omega arith)))

-- and those of an epoch as many as validators are active
pub active_are_members : (preset : Preset) (seed active : List ℕ) → IsPreset preset → member_count (committees_of preset seed active) ≡ length active
unfolding member_count committees_of compute_committee
active_are_members preset seed active is =
    whole_has (length active) (committee_count_per_slot preset (length active) * preset.slots_per_epoch) (some_committees preset (length active) is)
    (λ k. compute_committee preset.shuffle_round_count active seed k (committee_count_per_slot preset (length active) * preset.slots_per_epoch))
    (λ k less. length-map-range_with_len _ _ _)
