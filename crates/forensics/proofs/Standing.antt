-- Spans stand for the votes that they took.
use Rattle.std.proofs.Common.{◌≡◌, ◌∙◌, ℕ, ◌+◌, ◌-◌, ◌<◌, ◌≤◌, ◌⊎◌, inl, inr, Bool, true, false, cond, ◌||◌, List, [], ◌∷◌, ◌++◌, length, get_or, Option, Some, None, Result, Ok, Err, OnOk, is_some, refl, sym, ap, subst, arith, length-append}
use Rattle.std.specs.List.{All, AllPairs, Any, Contains, find, list_any, insert}
use Rattle.std.proofs.lemmas.Bool.{cases_Bool, cases_lt, false≢true, false_from_ne_true, and_parts, and_from, ltb-true, lt-ltb}
use Rattle.std.proofs.lemmas.List.{get_or_default, get_or_append_left}
use Rattle.std.proofs.lemmas.List.Edits.{length-insert, get_or-insert_below, get_or-insert_at, get_or-insert_above}
use Rattle.std.proofs.lemmas.List.Elements.{All-cons, All-contains, All-push, All-tail, All-weaker, Contains-push, Contains-append_left, Contains-get_or}
use Rattle.std.proofs.lemmas.List.Folds.{list_any-from_Any, list_any_at}
use Rattle.std.proofs.lemmas.List.Quantifiers.{all_pairs_push}
use Rattle.std.proofs.lemmas.List.Sorted.{IsPermutation-insert, All-permutation, Contains-permutation}
use Rattle.beacon_types.specs.declared.attestation_data.AttestationData.{AttestationData}
use Rattle.beacon_types.specs.Equality.{same_data}
use Rattle.beacon_types.specs.Slashable.{is_slashable_attestation_data}
use Rattle.spec_forensics.specs.Offences.{are_slashable}
use Rattle.bc_words.specs.Outcome.{Becomes}
use Rattle.bc_words.specs.declared.stop.NoMemory.{NoMemory}
use Rattle.forensics.specs.Pairs.{no_content, content_at, source_at, target_at, are_slashable_at, first_slashable}
use Rattle.spec_forensics.specs.FirstPair.{pair_or, first_pair}
use Rattle.forensics.specs.Spans.{PlainSpans, Follows, IsSorted, place_of, least_of, stands_at, spans_after}
use Rattle.forensics.specs.Standing.{IsCovered, StandsFor}
use Rattle.forensics.proofs.Epochs.{IsSame, same_from, same_gives, same_slashable, slashable_from}
use Rattle.forensics.proofs.Beside.{IsPlace, place_is}
use Rattle.forensics.proofs.Adding.{after_found, after_slashable, after_known, after_new, something_passes}
use Rattle.forensics.proofs.Firsts.{or_last, first_push, least_found, none_found, behind, least_is}

-- ---- one item more of a list

module _ (xs : List ℕ) (place item : ℕ) (within : place ≤ length xs) where
  abbrev longer : List ℕ
  longer = insert xs place item

  stands : (k d : ℕ) → ((k < place) × (get_or longer k d ≡ get_or xs k d)) ⊎ (((k ≡ place) × (get_or longer k d ≡ item)) ⊎ ((place < k) × (get_or longer k d ≡ get_or xs (k - 1) d)))
  stands k d = elim (cases_lt k place) [
    | inl less ↦ inl (less, get_or-insert_below xs place item d k less within)
    | inr ge ↦ elim (cases_lt place k) [
      | inl less ↦ let e : k ≡ k - 1 + 1 = omega arith in inr (inr (less, ap (λ i. get_or longer i d) e ∙ get_or-insert_above xs place item d (k - 1) (omega arith) within))
      | inr le ↦ let e : k ≡ place = omega arith in inr (inl (e, ap (λ i. get_or longer i d) e ∙ get_or-insert_at xs place item d within))
    ]
  ]

both_at : (R : ℕ → ℕ → Type 0) (a b x y : ℕ) → x ≡ a → y ≡ b → R a b → R x y
both_at R a b x y p q r = subst (λ (i : ℕ). R i y) (sym p) (subst (λ (i : ℕ). R a i) (sym q) r)

pub pairs_insert : (R : ℕ → ℕ → Type 0) (xs : List ℕ) (place item : ℕ) → AllPairs R xs → place ≤ length xs → ((k : ℕ) → k < place → (d : ℕ) → R (get_or xs k d) item)
    → ((k : ℕ) → place ≤ k → k < length xs → (d : ℕ) → R item (get_or xs k d)) → AllPairs R (insert xs place item)
pairs_insert R xs place item pairs within before behind i j d less inside =
    let len : length (insert xs place item) ≡ length xs + 1 = length-insert xs place item within in
    elim (stands xs place item within i d) [
      | inl low ↦ let l = low.0 in elim (stands xs place item within j d) [
        | inl h ↦ let h' = h.0 in both_at R _ _ _ _ low.1 h.1 (pairs i j d less (omega arith))
        | inr other ↦ elim other [
          | inl h ↦ both_at R _ _ _ _ low.1 h.1 (before i l d)
          | inr h ↦ let h' = h.0 in both_at R _ _ _ _ low.1 h.1 (pairs i (j - 1) d (omega arith) (omega arith))
        ]
      ]
      | inr rest ↦ elim rest [
        | inl here ↦ let l = here.0 in elim (stands xs place item within j d) [
          | inl h ↦ absurd (let h' = h.0 in omega arith)
          | inr other ↦ elim other [
            | inl h ↦ absurd (let h' = h.0 in omega arith)
            | inr h ↦ let h' = h.0 in both_at R _ _ _ _ here.1 h.1 (behind (j - 1) (omega arith) (omega arith) d)
          ]
        ]
        | inr high ↦ let l = high.0 in elim (stands xs place item within j d) [
          | inl h ↦ absurd (let h' = h.0 in omega arith)
          | inr other ↦ elim other [
            | inl h ↦ absurd (let h' = h.0 in omega arith)
            | inr h ↦ let h' = h.0 in both_at R _ _ _ _ high.1 h.1 (pairs (i - 1) (j - 1) d (omega arith) (omega arith))
          ]
        ]
      ]
    ]

-- ---- a sorted, one vote more

module _ (contents : List AttestationData) (votes : List ℕ) (sorted : IsSorted contents votes) (vote : ℕ) (clear : list_any (λ e. are_slashable_at contents e vote) votes ≡ false) (place : ℕ) (is : IsPlace contents votes (target_at contents vote) place) where
  abbrev at : ℕ → ℕ
  at k = get_or votes k 0

  not_slashable : (k : ℕ) → k < length votes → are_slashable_at contents (at k) vote ≡ true → ⊥
  not_slashable k inside h = false≢true (sym clear ∙ list_any_at (λ e. are_slashable_at contents e vote) votes k 0 inside h)

  before_new : (k : ℕ) → k < place → Follows contents (at k) vote
  before_new k less =
      let w = is.within in
      let t : target_at contents (at k) < target_at contents vote = is.before k less in
      record {
        later = t;
        no_earlier = elim (cases_lt (source_at contents vote) (source_at contents (at k))) [
          | inl under ↦ absurd (not_slashable k (omega arith) (slashable_from contents (at k) vote (inr (inr (record { source = under; target = t })))))
          | inr ge ↦ ge
        ];
      }

  module _ (new : stands_at contents votes place vote ≡ false) where
    no_same : place < length votes → IsSame contents (at place) vote → ⊥
    unfolding stands_at
    no_same inside same = false≢true (sym new ∙ and_from _ _ (lt-ltb place (length votes) inside) (same_gives contents (at place) vote same))

    later_target : (k : ℕ) → place ≤ k → k < length votes → target_at contents vote < target_at contents (at k)
    later_target k ge inside =
        let t : target_at contents vote ≤ target_at contents (at k) = is.behind k ge inside in
        let p : target_at contents vote ≤ target_at contents (at place) = is.behind place (omega arith) (omega arith) in
        elim (cases_lt (target_at contents vote) (target_at contents (at k))) [
          | inl less ↦ less
          | inr ge' ↦ elim (cases_lt place k) [
            | inl less ↦ absurd (let f = sorted.rises place k 0 less inside in omega (arith, f.later))
            | inr le ↦ let e : k ≡ place = omega arith in elim (cases_Bool (same_data (content_at contents (at k)) (content_at contents vote))) [
              | inl same ↦ absurd (no_same (omega arith) (subst (λ (i : ℕ). IsSame contents (at i) vote) e (same_from contents (at k) vote same)))
              | inr other ↦ absurd (not_slashable k inside (slashable_from contents (at k) vote (inl (record { other = other; target = omega arith }))))
            ]
          ]
        ]

    behind_new : (k : ℕ) → place ≤ k → k < length votes → Follows contents vote (at k)
    behind_new k ge inside =
        let t : target_at contents vote < target_at contents (at k) = later_target k ge inside in
        record {
          later = t;
          no_earlier = elim (cases_lt (source_at contents (at k)) (source_at contents vote)) [
            | inl over ↦ absurd (not_slashable k inside (slashable_from contents (at k) vote (inr (inl (record { source = over; target = t })))))
            | inr ge' ↦ ge'
          ];
        }

    abbrev grown : List ℕ
    grown = insert votes place vote

    rises_new : AllPairs (Follows contents) grown
    rises_new = pairs_insert (Follows contents) votes place vote sorted.rises is.within
        (λ k less d. let w = is.within in subst (λ (i : ℕ). Follows contents i vote) (get_or_default votes k 0 d (omega arith)) (before_new k less))
        (λ k ge inside d. subst (λ (i : ℕ). Follows contents vote i) (get_or_default votes k 0 d inside) (behind_new k ge inside))

    pub sorted_new : vote < length contents → IsSorted contents grown
    sorted_new inside = record {
      inside = All-permutation (λ v. v < length contents) (vote ∷ votes) grown (IsPermutation-insert votes place vote) (All-cons (λ v. v < length contents) vote votes inside sorted.inside);
      rises = rises_new;
    }

-- ---- the spans, one vote more

module _ (contents : List AttestationData) (spans : PlainSpans) (earlier : List ℕ) (vote : ℕ) (stands : StandsFor contents spans earlier) (inside : vote < length contents) (later : All (λ e. e ≤ vote) earlier) where
  test : ℕ → Bool
  test e = are_slashable_at contents e vote

  ascends_more : AllPairs (λ a b. a ≤ b) (earlier ++ vote ∷ [])
  ascends_more = all_pairs_push (λ a b. a ≤ b) earlier vote stands.ascends (λ k d h. later k d h)

  inside_more : All (λ v. v < length contents) (earlier ++ vote ∷ [])
  inside_more = All-push (λ v. v < length contents) earlier vote stands.inside inside

  some_last : (m : ℕ) → or_last None (Some m) vote ≡ Some (m, vote)
  unfolding pair_or
  some_last m = refl

  no_last : or_last None None vote ≡ None
  unfolding pair_or
  no_last = refl

  -- what was the first slashable pair, and what it is now
  push_is : (o : Option (ℕ × ℕ)) (found : Option ℕ) → spans.offence ≡ o → find test earlier ≡ found → first_slashable contents [] (earlier ++ vote ∷ []) ≡ or_last o found vote
  unfolding test
  push_is o found e f =
      first_push contents [] earlier vote
      ∙ ap (λ p. or_last p (find (λ e. are_slashable_at contents e vote) earlier) vote) (sym stands.offence ∙ e)
      ∙ ap (λ p. or_last o p vote) f

  found_is : find test earlier ≡ find (λ e. are_slashable_at contents e vote) earlier
  unfolding test
  found_is = refl

  -- an offence stays
  stays : (o : ℕ × ℕ) → spans.offence ≡ Some o → StandsFor contents spans (earlier ++ vote ∷ [])
  stays o e = record {
    offence = e ∙ sym (push_is (Some o) (find test earlier) e refl);
    sorted = stands.sorted;
    ascends = ascends_more;
    inside = inside_more;
    listed = λ none. absurd (false≢true (ap is_some (sym none ∙ e)));
    covered = λ none. absurd (false≢true (ap is_some (sym none ∙ e)));
  }

  module _ (none : spans.offence ≡ None) where
    -- what is_slashable_with_any is covered by a vote that is_slashable_with_any
    covers : (P : ℕ → Type 0) (e : ℕ) → ((by : ℕ) → Contains spans.votes by → test by ≡ true → by ≤ e → P by) → IsCovered contents spans.votes e → test e ≡ true → (by : ℕ) × P by
    unfolding test
    covers P e give c is = (c.by, give c.by c.among (same_slashable contents c.by e vote (record { content = c.content }) ∙ is) c.no_later)

    is_slashable_with_any : (m : ℕ) → least_of test None spans.votes ≡ Some m → StandsFor contents (record { votes = spans.votes; offence = Some (m, vote) }) (earlier ++ vote ∷ [])
    is_slashable_with_any m e =
        let l = least_is test None spans.votes m e in
        let some : Contains spans.votes m × (test m ≡ true) = elim l.some [ inl h ↦ absurd (false≢true (ap is_some h)) | inr h ↦ h ] in
        let found : find test earlier ≡ Some m = least_found test earlier m stands.ascends (All-contains (Contains earlier) spans.votes m (stands.listed none) some.0) some.1
        (λ k d h is. let c = covers (λ by. m ≤ get_or earlier k d) (get_or earlier k d)
        (λ by among is_bad le. let no_less : m ≤ by = All-contains (λ e. test e ≡ true → m ≤ e) spans.votes by l.of_votes among is_bad in omega arith) (stands.covered none k d h) is in c.1) in
        record {
          offence = sym (push_is None (Some m) none found ∙ some_last m);
          sorted = stands.sorted;
          ascends = ascends_more;
          inside = inside_more;
          listed = λ h. absurd (false≢true (ap is_some (sym h)));
          covered = λ h. absurd (false≢true (ap is_some (sym h)));
        }

    module _ (clear : least_of test None spans.votes ≡ None) where
      none_slashable : list_any test spans.votes ≡ false
      none_slashable = false_from_ne_true (list_any test spans.votes) (λ h. false≢true (ap is_some (sym clear) ∙ something_passes test None spans.votes h))

      not_found : find test earlier ≡ None
      not_found = none_found test earlier (λ k d h is. let c = covers (λ by. ⊥) (get_or earlier k d)
          (λ by among is_bad le. false≢true (sym none_slashable ∙ list_any-from_Any test spans.votes (any_of among is_bad))) (stands.covered none k d h) is in c.1)
        where
          any_of : {by : ℕ} → Contains spans.votes by → test by ≡ true → Any (λ e. test e ≡ true) spans.votes
          any_of {by} c is = (c.0, by, c.1, c.2, is)

      still_none : spans.offence ≡ first_slashable contents [] (earlier ++ vote ∷ [])
      still_none = none ∙ sym (push_is None None none not_found ∙ no_last)

      place : ℕ
      place = place_of contents spans.votes (target_at contents vote)

      is_place : IsPlace contents spans.votes (target_at contents vote) place
      unfolding place
      is_place = place_is contents spans.votes (target_at contents vote) stands.sorted

      cover_more : (votes : List ℕ) → ((e : ℕ) → Contains spans.votes e → Contains votes e) → IsCovered contents votes vote → All (IsCovered contents votes) (earlier ++ vote ∷ [])
      cover_more votes keeps last = All-push (IsCovered contents votes) earlier vote
          (All-weaker (IsCovered contents spans.votes) (IsCovered contents votes) (λ e c. record { by = c.by; among = keeps c.by c.among; content = c.content; no_later = c.no_later }) earlier (stands.covered none)) last

      known : stands_at contents spans.votes place vote ≡ true → StandsFor contents spans (earlier ++ vote ∷ [])
      unfolding stands_at
      known h =
          let p = and_parts _ _ h in
          let inside_votes : place < length spans.votes = ltb-true place (length spans.votes) p.0 in
          let by : ℕ = get_or spans.votes place 0 in
          let among : Contains spans.votes by = Contains-get_or spans.votes place 0 inside_votes in
          let same : IsSame contents by vote = same_from contents by vote p.1 in
          let earlier_is : by ≤ vote = All-contains (λ e. e ≤ vote) earlier by later (All-contains (Contains earlier) spans.votes by (stands.listed none) among) in
          record {
            offence = still_none;
            sorted = stands.sorted;
            ascends = ascends_more;
            inside = inside_more;
            listed = λ _. All-weaker (Contains earlier) (Contains (earlier ++ vote ∷ [])) (λ e c. Contains-append_left earlier (vote ∷ []) e c) spans.votes (stands.listed none);
            covered = λ _. cover_more spans.votes (λ e c. c) (record { by = by; among = among; content = same.content; no_later = omega arith });
          }

      new : stands_at contents spans.votes place vote ≡ false → StandsFor contents (record { votes = insert spans.votes place vote; offence = spans.offence }) (earlier ++ vote ∷ [])
      unfolding test
      new h =
          let moved = IsPermutation-insert spans.votes place vote in
          record {
            offence = still_none;
            sorted = sorted_new contents spans.votes stands.sorted vote none_slashable place is_place h inside;
            ascends = ascends_more;
            inside = inside_more;
            listed = λ _. All-permutation (Contains (earlier ++ vote ∷ [])) (vote ∷ spans.votes) (insert spans.votes place vote) moved
                (All-cons (Contains (earlier ++ vote ∷ [])) vote spans.votes (Contains-push earlier vote)
                (All-weaker (Contains earlier) (Contains (earlier ++ vote ∷ [])) (λ e c. Contains-append_left earlier (vote ∷ []) e c) spans.votes (stands.listed none)));
            covered = λ _. cover_more (insert spans.votes place vote) (λ e c. Contains-permutation (vote ∷ spans.votes) (insert spans.votes place vote) e moved (behind vote spans.votes e c))
                (record { by = vote; among = Contains-permutation (vote ∷ spans.votes) (insert spans.votes place vote) vote moved (0, omega arith, refl); content = refl; no_later = omega arith });
          }

      placed : (b : Bool) → stands_at contents spans.votes place vote ≡ b → StandsFor contents (spans_after contents spans vote) (earlier ++ vote ∷ [])
      unfolding place test
      placed true h = subst (λ (p : PlainSpans). StandsFor contents p (earlier ++ vote ∷ [])) (sym (after_known contents spans vote (ap is_some none) none_slashable h)) (known h)
      placed false h = subst (λ (p : PlainSpans). StandsFor contents p (earlier ++ vote ∷ [])) (sym (after_new contents spans vote (ap is_some none) none_slashable h)) (new h)

    by_least : (least : Option ℕ) → least_of test None spans.votes ≡ least → StandsFor contents (spans_after contents spans vote) (earlier ++ vote ∷ [])
    unfolding test
    by_least (Some m) h = subst (λ (p : PlainSpans). StandsFor contents p (earlier ++ vote ∷ [])) (sym (after_slashable contents spans vote (ap is_some none) m (sym h))) (is_slashable_with_any m h)
    by_least None h = placed h (stands_at contents spans.votes (place h) vote) refl

  by_offence : (o : Option (ℕ × ℕ)) → spans.offence ≡ o → StandsFor contents (spans_after contents spans vote) (earlier ++ vote ∷ [])
  by_offence (Some o) h = subst (λ (p : PlainSpans). StandsFor contents p (earlier ++ vote ∷ [])) (sym (after_found contents spans vote (ap is_some h))) (stays o h)
  by_offence None h = by_least h (least_of test None spans.votes) refl

-- spans behind a vote stand for the votes and that one
pub stands_after : (contents : List AttestationData) (spans : PlainSpans) (earlier : List ℕ) (vote : ℕ) → StandsFor contents spans earlier → vote < length contents → All (λ e. e ≤ vote) earlier
    → StandsFor contents (spans_after contents spans vote) (earlier ++ vote ∷ [])
stands_after contents spans earlier vote stands inside later = by_offence contents spans earlier vote stands inside later spans.offence refl

is_some_last : (found : Option ℕ) (vote : ℕ) → is_some (pair_or found vote None) ≡ is_some found
unfolding pair_or
is_some_last (Some e) vote = refl
is_some_last None vote = refl

cond_some : (b : Bool) (x : ℕ) (rest : Option ℕ) (c : Bool) → is_some rest ≡ c → is_some (cond b (Some x) rest) ≡ (b || c)
cond_some true x rest c e = refl
cond_some false x rest c e = e

some_found : (test : ℕ → Bool) (xs : List ℕ) → is_some (find test xs) ≡ list_any test xs
some_found test [] = refl
some_found test (x ∷ xs) = cond_some (test x) x (find test xs) (list_any test xs) (some_found test xs)

-- where there was no offence, there is one exactly where the vote is_slashable_with_any with an earlier one
pub says_after : (contents : List AttestationData) (spans : PlainSpans) (earlier : List ℕ) (vote : ℕ) → StandsFor contents spans earlier → vote < length contents → All (λ e. e ≤ vote) earlier → spans.offence ≡ None
    → is_some (spans_after contents spans vote).offence ≡ list_any (λ e. are_slashable_at contents e vote) earlier
says_after contents spans earlier vote stands inside later none =
    ap is_some ((stands_after contents spans earlier vote stands inside later).offence ∙ push_is contents spans earlier vote stands inside later None (find (λ e. are_slashable_at contents e vote) earlier) none (found_is contents spans earlier vote stands inside later))
    ∙ is_some_last (find (λ e. are_slashable_at contents e vote) earlier) vote
    ∙ some_found (λ e. are_slashable_at contents e vote) earlier

-- the same of a step of code
pub says_taken : {U : Type 0} (r : Result U NoMemory) (contents : List AttestationData) (spans now : PlainSpans) (vote : ℕ) → vote < length contents → Becomes r spans now (spans_after contents spans vote)
    → (earlier : List ℕ) → StandsFor contents spans earlier → All (λ e. e ≤ vote) earlier → spans.offence ≡ None → OnOk r (is_some now.offence ≡ list_any (λ e. are_slashable_at contents e vote) earlier)
says_taken (Ok x) contents spans now vote inside is earlier stands later none = ap (λ (p : PlainSpans). is_some p.offence) is ∙ says_after contents spans earlier vote stands inside later none
says_taken (Err x) contents spans now vote inside is earlier stands later none = tt

-- no spans stand for no votes
pub stands_first : (contents : List AttestationData) → StandsFor contents (record { votes = []; offence = None }) []
unfolding first_pair
stands_first contents = record {
  offence = refl;
  sorted = record { inside = λ k d h. absurd (omega arith); rises = λ i j d less h. absurd (omega arith) };
  ascends = λ i j d less h. absurd (omega arith);
  inside = λ k d h. absurd (omega arith);
  listed = λ _ k d h. absurd (omega arith);
  covered = λ _ k d h. absurd (omega arith);
}

-- ---- more contents

module _ (contents more : List AttestationData) where
  content_stays : (e : ℕ) → e < length contents → content_at (contents ++ more) e ≡ content_at contents e
  unfolding content_at
  content_stays e inside = get_or_append_left contents more no_content e inside

  epochs_stay : (e : ℕ) → e < length contents → (source_at (contents ++ more) e ≡ source_at contents e) × (target_at (contents ++ more) e ≡ target_at contents e)
  unfolding source_at target_at
  epochs_stay e inside = (ap (λ (d : AttestationData). d.source.epoch) (content_stays e inside), ap (λ (d : AttestationData). d.target.epoch) (content_stays e inside))

  slashable_stays : (a b : ℕ) → a < length contents → b < length contents → are_slashable_at (contents ++ more) a b ≡ are_slashable_at contents a b
  unfolding are_slashable_at are_slashable
  slashable_stays a b a_in b_in =
      ap (λ (d : AttestationData). is_slashable_attestation_data d (content_at (contents ++ more) b) || is_slashable_attestation_data (content_at (contents ++ more) b) d) (content_stays a a_in)
      ∙ ap (λ (d : AttestationData). is_slashable_attestation_data (content_at contents a) d || is_slashable_attestation_data d (content_at contents a)) (content_stays b b_in)

  found_stays : (v : ℕ) (xs : List ℕ) → v < length contents → All (λ e. e < length contents) xs → find (λ e. are_slashable_at (contents ++ more) e v) xs ≡ find (λ e. are_slashable_at contents e v) xs
  found_stays v [] v_in inside = refl
  found_stays v (x ∷ xs) v_in inside =
      ap (λ b. cond b (Some x) (find (λ e. are_slashable_at (contents ++ more) e v) xs)) (slashable_stays x v (inside 0 0 (omega arith)) v_in)
      ∙ ap (λ o. cond (are_slashable_at contents x v) (Some x) o) (found_stays v xs v_in (All-tail (λ e. e < length contents) x xs inside))

  first_stays : (earlier later : List ℕ) → All (λ e. e < length contents) earlier → All (λ e. e < length contents) later → first_slashable (contents ++ more) earlier later ≡ first_slashable contents earlier later
  unfolding first_pair
  first_stays earlier [] earlier_in later_in = refl
  first_stays earlier (v ∷ later) earlier_in later_in =
      let v_in : v < length contents = later_in 0 0 (omega arith) in
      ap (λ o. pair_or o v (first_slashable (contents ++ more) (earlier ++ v ∷ []) later)) (found_stays v earlier v_in earlier_in)
      ∙ ap (pair_or (find (λ e. are_slashable_at contents e v) earlier) v) (first_stays (earlier ++ v ∷ []) later (All-push (λ e. e < length contents) earlier v earlier_in v_in) (All-tail (λ e. e < length contents) v later later_in))

  -- what spans stand for stays, whatever contents come behind the others
  pub stands_still : (spans : PlainSpans) (votes : List ℕ) → StandsFor contents spans votes → StandsFor (contents ++ more) spans votes
  stands_still spans votes stands =
      let longer : length contents ≤ length (contents ++ more) = omega (arith, length-append contents more) in
      record {
        offence = stands.offence ∙ sym (first_stays [] votes (λ k d h. absurd (omega arith)) stands.inside);
        sorted = record {
          inside = All-weaker (λ v. v < length contents) (λ v. v < length (contents ++ more)) (λ v h. omega arith) spans.votes stands.sorted.inside;
          rises = λ i j d less h.
              let a = epochs_stay (get_or spans.votes i d) (stands.sorted.inside i d (omega arith)) in
              let b = epochs_stay (get_or spans.votes j d) (stands.sorted.inside j d h) in
              let f = stands.sorted.rises i j d less h in
              record { later = omega (arith, a.1, b.1, f.later); no_earlier = omega (arith, a.0, b.0, f.no_earlier) };
        };
        ascends = stands.ascends;
        inside = All-weaker (λ v. v < length contents) (λ v. v < length (contents ++ more)) (λ v h. omega arith) votes stands.inside;
        listed = stands.listed;
        covered = λ none k d h.
            let c = stands.covered none k d h in
            let by_in : c.by < length contents = All-contains (λ v. v < length contents) spans.votes c.by stands.sorted.inside c.among in
            record { by = c.by; among = c.among; content = content_stays c.by by_in ∙ c.content ∙ sym (content_stays (get_or votes k d) (stands.inside k d h)); no_later = c.no_later };
      }

  pub sorted_still : (votes : List ℕ) → IsSorted contents votes → IsSorted (contents ++ more) votes
  sorted_still votes sorted =
      let longer : length contents ≤ length (contents ++ more) = omega (arith, length-append contents more) in
      record {
        inside = All-weaker (λ v. v < length contents) (λ v. v < length (contents ++ more)) (λ v h. omega arith) votes sorted.inside;
        rises = λ i j d less h.
            let a = epochs_stay (get_or votes i d) (sorted.inside i d (omega arith)) in
            let b = epochs_stay (get_or votes j d) (sorted.inside j d h) in
            let f = sorted.rises i j d less h in
            record { later = omega (arith, a.1, b.1, f.later); no_earlier = omega (arith, a.0, b.0, f.no_earlier) };
      }

-- a sorted stays one behind a vote
module _ (contents : List AttestationData) (spans : PlainSpans) (vote : ℕ) (sorted : IsSorted contents spans.votes) (inside : vote < length contents) where
  abbrev IsSortedAfter : PlainSpans → Type 0
  IsSortedAfter p = IsSorted contents p.votes

  by_place : (none : is_some spans.offence ≡ false) → (clear : list_any (λ e. are_slashable_at contents e vote) spans.votes ≡ false) → (b : Bool) → stands_at contents spans.votes (place_of contents spans.votes (target_at contents vote)) vote ≡ b → IsSortedAfter (spans_after contents spans vote)
  by_place none clear true h = subst IsSortedAfter (sym (after_known contents spans vote none clear h)) sorted
  by_place none clear false h = subst IsSortedAfter (sym (after_new contents spans vote none clear h)) (sorted_new contents spans.votes sorted vote clear (place_of contents spans.votes (target_at contents vote)) (place_is contents spans.votes (target_at contents vote) sorted) h inside)

  by_found : (none : is_some spans.offence ≡ false) → (least : Option ℕ) → least_of (λ e. are_slashable_at contents e vote) None spans.votes ≡ least → IsSortedAfter (spans_after contents spans vote)
  by_found none (Some m) h = subst IsSortedAfter (sym (after_slashable contents spans vote none m (sym h))) sorted
  by_found none None h = by_place none (false_from_ne_true (list_any (λ e. are_slashable_at contents e vote) spans.votes) (λ is. false≢true (ap is_some (sym h) ∙ something_passes (λ e. are_slashable_at contents e vote) None spans.votes is))) (stands_at contents spans.votes (place_of contents spans.votes (target_at contents vote)) vote) refl

  by_any : (o : Option (ℕ × ℕ)) → spans.offence ≡ o → IsSortedAfter (spans_after contents spans vote)
  by_any (Some o) h = subst IsSortedAfter (sym (after_found contents spans vote (ap is_some h))) sorted
  by_any None h = by_found (ap is_some h) (least_of (λ e. are_slashable_at contents e vote) None spans.votes) refl

pub sorted_after : (contents : List AttestationData) (spans : PlainSpans) (vote : ℕ) → IsSorted contents spans.votes → vote < length contents → IsSorted contents (spans_after contents spans vote).votes
sorted_after contents spans vote sorted inside = by_any contents spans vote sorted inside spans.offence refl

pub ruleset standing = (stands_after)

pub ruleset beginning = (stands_first)
