-- Every validator of an active list without repeats stands in one committee, at one place.
use Rattle.std.proofs.Common.{◌≡◌, ℕ, suc, ◌+◌, ◌-◌, ◌<◌, ◌≤◌, List, [], length, map, slice_index, slice_index_or, refl, sym, ap, ◌∙◌, arith, inl, inr}
use Rattle.std.specs.List.{range_with_len}
use Rattle.std.proofs.lemmas.Bool.{cases_order}
use Rattle.std.proofs.lemmas.List.FromFn.{length-map-range_with_len, get_or-map-range_with_len}
use Rattle.committees.specs.Shuffling.{compute_shuffled_index}
use Rattle.committees.proofs.Rounds.{place_below, one_to_one, index_at, index_below, place_at_index}
use Rattle.committees.specs.Committees.{committee_start, compute_committee, StandsAt, StandOnce, IsWithoutRepeats}
use Rattle.committees.proofs.Parts.{first_monotone, first_zero, first_all, first_within, part_of}

-- two parts that have a place in common are one part
same_part : (first : ℕ → ℕ) (a b place other : ℕ) → ((k later : ℕ) → k ≤ later → first k ≤ first later) → first a ≤ place → place < first (a + 1) → first b ≤ other → other < first (b + 1) → place ≡ other → a ≡ b
same_part first a b place other monotone low high other_low other_high same = elim (cases_order a b) [
  | inl e ↦ e
  | inr (inl less) ↦ absurd (omega (arith, monotone (a + 1) b (omega arith)))
  | inr (inr more) ↦ absurd (omega (arith, monotone (b + 1) a (omega arith)))
]

module _ (active seed : List ℕ) (rounds count : ℕ) (some : 0 < count) where
  -- where committee k begins among the shuffled places
  abbrev first : ℕ → ℕ
  first = committee_start (length active) count

  -- all committees
  abbrev all : List (List ℕ)
  all = map (λ k. compute_committee rounds active seed k count) (range_with_len 0 count)

  length_all : length all ≡ count
  length_all = length-map-range_with_len _ 0 count

  committee_is : (k : ℕ) → k < count → slice_index_or all k [] ≡ compute_committee rounds active seed k count
  committee_is k less = get_or-map-range_with_len _ 0 count k k [] less (omega arith)

  committee_length : (k : ℕ) → length (compute_committee rounds active seed k count) ≡ first (k + 1) - first k
  unfolding compute_committee
  committee_length k = length-map-range_with_len _ (first k) (first (k + 1) - first k)

  member_is : (k place : ℕ) → place < first (k + 1) - first k → slice_index (compute_committee rounds active seed k count) place ≡ slice_index active (compute_shuffled_index rounds (first k + place) (length active) seed)
  unfolding compute_committee
  member_is k place less = get_or-map-range_with_len _ (first k) (first (k + 1) - first k) place (first k + place) 0 less refl

  -- what it means to stand at a place of a committee
  record Stands (k place member : ℕ) : Type 0 where
    committee : k < count
    place_in : first k + place < first (k + 1)
    within : first k + place < length active
    is : slice_index active (compute_shuffled_index rounds (first k + place) (length active) seed) ≡ member

  from_stands : (k place member : ℕ) → StandsAt all k place member → Stands k place member
  from_stands k place member at =
      let less : k < count = omega (arith, at.committee, length_all) in
      let inside : place < first (k + 1) - first k = rw (committee_is k less, committee_length k) at at.place_in in
      record {
        committee = less;
        place_in = omega arith;
        within = omega (arith, first_within (length active) count some (k + 1) (omega arith));
        is = sym (member_is k place inside) ∙ (sym (ap (λ xs. slice_index xs place) (committee_is k less)) ∙ at.member_is);
      }

  to_stands : (k place member : ℕ) → Stands k place member → StandsAt all k place member
  to_stands k place member at = record {
    committee = omega (arith, at.committee, length_all);
    place_in = rw (committee_is k at.committee, committee_length k) (omega (arith, at.place_in));
    member_is = ap (λ xs. slice_index xs place) (committee_is k at.committee) ∙ (member_is k place (omega (arith, at.place_in)) ∙ at.is);
  }

  each_at : (place : ℕ) → place < length active → (k : ℕ) × (inner : ℕ) × StandsAt all k inner (slice_index active (compute_shuffled_index rounds place (length active) seed))
  each_at place less =
      let part = part_of first count place (omega (arith, first_zero (length active) count some)) (omega (arith, first_all (length active) count some)) in
      let e : first part.0 + (place - first part.0) ≡ place = omega (arith, part.2) in
      let next : first (suc part.0) ≡ first (part.0 + 1) = ap first (omega arith) in (
        part.0,
        place - first part.0,
        to_stands part.0 (place - first part.0) _ (record {
          committee = part.1;
          place_in = omega (arith, part.3, next, e);
          within = omega (arith, e);
          is = ap (λ p. slice_index active (compute_shuffled_index rounds p (length active) seed)) e;
        }),
      )

  pub stand_once : IsWithoutRepeats active → StandOnce active all
  stand_once distinct = record {
    each = λ i less.
        let place = index_at seed (length active) rounds i in
        let at = each_at place (index_below seed (length active) rounds i less) in
        rw (place_at_index seed (length active) rounds i less) at at;
    once = λ k place other_k other_place member here there.
        let h = from_stands k place member here in
        let t = from_stands other_k other_place member there in
        let same : first k + place ≡ first other_k + other_place =
        one_to_one seed (length active) rounds (first other_k + other_place) (first k + place) t.within h.within
        (distinct.once _ _ (place_below seed (length active) rounds _ h.within) (place_below seed (length active) rounds _ t.within) (h.is ∙ sym t.is)) in
        let parts : k ≡ other_k =
        same_part first k other_k (first k + place) (first other_k + other_place) (first_monotone (length active) count some) (omega arith) h.place_in (omega arith) t.place_in same in
        (parts, omega (arith, same, ap first parts));
    only = λ k place member at.
        let h = from_stands k place member at in
        (compute_shuffled_index rounds (first k + place) (length active) seed, place_below seed (length active) rounds _ h.within, h.is);
  }
