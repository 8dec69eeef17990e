-- A vote that is_slashable_with_any with one of a sorted is_slashable_with_any with one of those beside its place.
use Rattle.std.proofs.Common.{◌≡◌, ◌∙◌, ℕ, ◌-◌, ◌<◌, ◌≤◌, ◌⊎◌, inl, inr, Bool, true, not, nat_le, List, length, get_or, sym, ap, subst, arith}
use Rattle.std.specs.List.{list_any, position_or_len}
use Rattle.std.proofs.lemmas.Bool.{cases_Bool, cases_lt, or_left, or_right, or_cases, and_from, and_parts, false_from_ne_true, lt-ltb, ltb-true, leb-true, leb-false, false≢true}
use Rattle.std.proofs.lemmas.List.{get_or_default}
use Rattle.std.proofs.lemmas.List.Folds.{Any-from_list_any, list_any_at}
use Rattle.std.proofs.lemmas.List.Sums.{prefix_len-le-length, fails_before_first, passes_at_first}
use Rattle.beacon_types.specs.declared.attestation_data.AttestationData.{AttestationData}
use Rattle.beacon_types.specs.Equality.{same_data}
use Rattle.forensics.specs.Pairs.{content_at, source_at, target_at, are_slashable_at}
use Rattle.forensics.specs.Spans.{IsSorted, place_of, slashable_at, slashable_beside}
use Rattle.forensics.proofs.Epochs.{IsAround, IsEither, same_source, same_from, slashable_from, slashable_gives_either}

-- a place before which targets are earlier, and from which on they aren't
pub record IsPlace (contents : List AttestationData) (votes : List ℕ) (target place : ℕ) : Type 0 where
  pub within : place ≤ length votes
  pub before : (k : ℕ) → k < place → target_at contents (get_or votes k 0) < target
  pub behind : (k : ℕ) → place ≤ k → k < length votes → target ≤ target_at contents (get_or votes k 0)

module _ (contents : List AttestationData) (votes : List ℕ) (sorted : IsSorted contents votes) where
  abbrev at : ℕ → ℕ
  at k = get_or votes k 0

  pub rises : (j k : ℕ) → j ≤ k → k < length votes → (target_at contents (at j) ≤ target_at contents (at k)) × (source_at contents (at j) ≤ source_at contents (at k))
  rises j k le inside = elim (cases_lt j k) [
    | inl less ↦ let f = sorted.rises j k 0 less inside in (omega arith, omega arith)
    | inr ge ↦ let e : j ≡ k = omega arith in (let t : target_at contents (at j) ≡ target_at contents (at k) = ap (λ i. target_at contents (at i)) e in omega arith, let s : source_at contents (at j) ≡ source_at contents (at k) = ap (λ i. source_at contents (at i)) e in omega arith)
  ]

  module _ (vote place : ℕ) (is : IsPlace contents votes (target_at contents vote) place) where
    at_place : place < length votes → are_slashable_at contents (at place) vote ≡ true → slashable_beside contents votes place vote ≡ true
    unfolding slashable_beside slashable_at
    at_place inside c = or_left _ _ (and_from _ _ (lt-ltb place (length votes) inside) c)

    before_place : 0 < place → are_slashable_at contents (at (place - 1)) vote ≡ true → slashable_beside contents votes place vote ≡ true
    unfolding slashable_beside slashable_at
    before_place some c = or_right _ _ (and_from _ _ (lt-ltb 0 place some) (and_from _ _ (lt-ltb (place - 1) (length votes) (let w = is.within in omega arith)) c))

    early : (k : ℕ) → k < place → IsEither contents (at k) vote → slashable_beside contents votes place vote ≡ true
    early k less c =
        let t : target_at contents (at k) < target_at contents vote = is.before k less in
        let w = is.within in
        let r = rises k (place - 1) (omega arith) (omega arith) in
        let p : target_at contents (at (place - 1)) < target_at contents vote = is.before (place - 1) (omega arith) in
        elim c [
          | inl double ↦ absurd (omega (arith, double.target))
          | inr around ↦ elim around [
            | inl over ↦ absurd (omega (arith, over.target))
            | inr under ↦ before_place (omega arith) (slashable_from contents (at (place - 1)) vote (inr (inr (record { source = omega (arith, under.source, r.1); target = p }))))
          ]
        ]

    late_over : (k : ℕ) → place ≤ k → k < length votes → IsAround contents (at k) vote → (target_at contents vote < target_at contents (at place)) ⊎ (target_at contents (at place) ≤ target_at contents vote) → Bool → slashable_beside contents votes place vote ≡ true
    late_over k ge inside over (inl above) b =
        let r = rises place k ge inside in
        at_place (omega arith) (slashable_from contents (at place) vote (inr (inl (record { source = omega (arith, over.source, r.1); target = above }))))
    late_over k ge inside over (inr below) b =
        let r = rises place k ge inside in
        let t : target_at contents vote ≤ target_at contents (at place) = is.behind place (omega arith) (omega arith) in
        elim (cases_Bool (same_data (content_at contents (at place)) (content_at contents vote))) [
          | inl same ↦ absurd (let s : source_at contents (at place) ≡ source_at contents vote = same_source contents (at place) vote (same_from contents (at place) vote same) in omega (arith, over.source, r.1))
          | inr other ↦ at_place (omega arith) (slashable_from contents (at place) vote (inl (record { other = other; target = omega arith })))
        ]

    late_double : (k : ℕ) → place ≤ k → k < length votes → are_slashable_at contents (at k) vote ≡ true → target_at contents (at k) ≡ target_at contents vote → (place < k) ⊎ (k ≤ place) → slashable_beside contents votes place vote ≡ true
    late_double k ge inside c same (inl less) = absurd (let f = sorted.rises place k 0 less inside in let t : target_at contents vote ≤ target_at contents (at place) = is.behind place (omega arith) (omega arith) in omega (arith, f.later))
    late_double k ge inside c same (inr le) = let e : k ≡ place = omega arith in at_place (omega arith) (ap (λ i. are_slashable_at contents (at i) vote) (sym e) ∙ c)

    late : (k : ℕ) → place ≤ k → k < length votes → are_slashable_at contents (at k) vote ≡ true → IsEither contents (at k) vote → slashable_beside contents votes place vote ≡ true
    late k ge inside is_bad c =
        let t : target_at contents vote ≤ target_at contents (at k) = is.behind k ge inside in
        elim c [
          | inl double ↦ late_double k ge inside is_bad double.target (cases_lt place k)
          | inr around ↦ elim around [
            | inl over ↦ late_over k ge inside over (cases_lt (target_at contents vote) (target_at contents (at place))) true
            | inr under ↦ absurd (omega (arith, under.target))
          ]
        ]

    any_beside : (k : ℕ) → k < length votes → are_slashable_at contents (at k) vote ≡ true → slashable_beside contents votes place vote ≡ true
    any_beside k inside c = elim (cases_lt k place) [
      | inl less ↦ early k less (slashable_gives_either contents (at k) vote c)
      | inr ge ↦ late k ge inside c (slashable_gives_either contents (at k) vote c)
    ]

    at_any : (k : ℕ) → slashable_at contents votes k vote ≡ true → list_any (λ e. are_slashable_at contents e vote) votes ≡ true
    unfolding slashable_at
    at_any k h = let p = and_parts _ _ h in list_any_at (λ e. are_slashable_at contents e vote) votes k 0 (ltb-true k (length votes) p.0) p.1

    beside_any : slashable_beside contents votes place vote ≡ true → list_any (λ e. are_slashable_at contents e vote) votes ≡ true
    unfolding slashable_beside
    beside_any h = elim (or_cases _ _ h) [
      | inl here ↦ at_any place here
      | inr there ↦ at_any (place - 1) (and_parts _ _ there).1
    ]

    any_gives : list_any (λ e. are_slashable_at contents e vote) votes ≡ true → slashable_beside contents votes place vote ≡ true
    any_gives h =
        let a = Any-from_list_any (λ e. are_slashable_at contents e vote) votes h in
        let k : ℕ = a.0 in
        let x : ℕ = a.1 in
        let inside : k < length votes = a.2 in
        let same : get_or votes k x ≡ x = a.3 in
        let e : at k ≡ x = get_or_default votes k 0 x inside ∙ same in
        any_beside k inside (ap (λ i. are_slashable_at contents i vote) e ∙ a.4)

    pub beside_is_any_at : slashable_beside contents votes place vote ≡ list_any (λ e. are_slashable_at contents e vote) votes
    beside_is_any_at = elim (cases_Bool (list_any (λ e. are_slashable_at contents e vote) votes)) [
      | inl is_any ↦ any_gives is_any ∙ sym is_any
      | inr none ↦ false_from_ne_true _ (λ h. false≢true (sym none ∙ beside_any h)) ∙ sym none
    ]

pub place_is : (contents : List AttestationData) (votes : List ℕ) (target : ℕ) → IsSorted contents votes → IsPlace contents votes target (place_of contents votes target)
unfolding place_of
place_is contents votes target sorted =
    let test : ℕ → Bool = λ (v : ℕ). nat_le target (target_at contents v) in
    let place : ℕ = position_or_len test votes in
    record {
      within = prefix_len-le-length (λ v. not (nat_le target (target_at contents v))) votes;
      before = λ k less. leb-false target (target_at contents (get_or votes k 0)) (fails_before_first (λ v. nat_le target (target_at contents v)) votes k 0 less);
      behind = λ k ge inside.
          let first : target ≤ target_at contents (get_or votes place 0) = leb-true _ _ (passes_at_first (λ v. nat_le target (target_at contents v)) votes 0 (omega arith)) in
          let r = rises contents votes sorted place k ge inside in
          omega (arith, r.0);
    }

pub beside_is_any : (contents : List AttestationData) (votes : List ℕ) (place vote : ℕ) → IsSorted contents votes → place ≡ place_of contents votes (target_at contents vote)
    → slashable_beside contents votes place vote ≡ list_any (λ e. are_slashable_at contents e vote) votes
beside_is_any contents votes place vote sorted e = beside_is_any_at contents votes sorted vote place (subst (λ (p : ℕ). IsPlace contents votes (target_at contents vote) p) (sym e) (place_is contents votes (target_at contents vote) sorted))
