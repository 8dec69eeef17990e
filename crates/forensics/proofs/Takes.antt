-- What all spans stand for, vote by vote.
use Rattle.std.proofs.Common.{◌≡◌, ◌∙◌, ℕ, zero, suc, ◌+◌, ◌<◌, ◌≤◌, inl, inr, Bool, true, false, cond, ◌==◌, List, [], ◌∷◌, ◌++◌, map, length, get_or, take, set, Result, Ok, Err, OnOk, refl, sym, ap, subst, arith, append_assoc, length-append}
use Rattle.std.specs.List.{All, filter}
use Rattle.std.proofs.lemmas.Bool.{cases_eq, eq-eqb, ne_eqb}
use Rattle.std.proofs.lemmas.List.Elements.{All-append, All-set, All-weaker, filter_more}
use Rattle.beacon_types.specs.declared.attestation_data.AttestationData.{AttestationData}
use Rattle.bc_words.specs.Outcome.{Becomes}
use Rattle.bc_words.specs.declared.stop.NoMemory.{NoMemory}
use Rattle.forensics.specs.Spans.{HeldSpans, PlainSpans, IsSorted, spans_after}
use Rattle.forensics.specs.Standing.{StandsFor}
use Rattle.forensics.proofs.Standing.{stands_after, stands_still, sorted_after, sorted_still}
use Rattle.forensics.specs.Room.{IsSame}
use Rattle.forensics.specs.AllSpans.{PlainAllSpans, votes_in, votes_of, AllStand, AreLow, votes_from, AreSpansOf, IsTaken, AreSorted}

pub sorted_of : (contents : List AttestationData) (spans : List HeldSpans) (i : ℕ) (own : HeldSpans) → i < length spans → own ≡ get_or spans i own → AreSorted contents spans → IsSorted contents own.spans.votes
sorted_of contents spans i own inside e are = subst (λ (h : HeldSpans). IsSorted contents h.spans.votes) (sym e) (are.sorted_all i own inside)

-- sorted_all stay
pub sorted_all_taken : (contents : List AttestationData) (old now : List HeldSpans) (validator vote : ℕ) → AreSorted contents old → vote < length contents → IsTaken contents old now validator vote → AreSorted contents now
sorted_all_taken contents old now validator vote are inside taken = record {
  sorted_all = λ k d h.
      let c = taken.count in
      let old_in : k < length old = omega arith in
      elim (cases_eq k validator) [
        | inl e ↦ subst (λ (i : ℕ). IsSorted contents (get_or now i d).spans.votes) (sym e) (subst (λ (p : PlainSpans). IsSorted contents p.votes) (sym (taken.own d (omega arith)))
            (sorted_after contents (get_or old validator d).spans vote (are.sorted_all validator d (omega arith)) inside))
        | inr other ↦ subst (λ (h : HeldSpans). IsSorted contents h.spans.votes) (sym (taken.others k d other)) (are.sorted_all k d old_in)
      ];
}

-- ---- what a validator's votes are, one attester more

one_more : (validator vote : ℕ) (xs : List ℕ) (b : Bool) (a : ℕ) → map (λ (_ : ℕ). vote) (xs ++ cond b (a ∷ []) []) ≡ map (λ (_ : ℕ). vote) xs ++ cond b (vote ∷ []) []
one_more validator vote [] true a = refl
one_more validator vote [] false a = refl
one_more validator vote (x ∷ xs) b a = ap (λ ys. vote ∷ ys) (one_more validator vote xs b a)

pub votes_more : (validator vote : ℕ) (attesters : List ℕ) (i : ℕ) → i < length attesters → votes_in validator vote (take (i + 1) attesters) ≡ votes_in validator vote (take i attesters) ++ cond (get_or attesters i 0 == validator) (vote ∷ []) []
unfolding votes_in
votes_more validator vote attesters i inside = ap (map (λ (_ : ℕ). vote)) (filter_more (λ a. a == validator) attesters i 0 inside) ∙ one_more validator vote (filter (λ a. a == validator) (take i attesters)) (get_or attesters i 0 == validator) (get_or attesters i 0)

all_are : (vote : ℕ) (xs : List ℕ) → All (λ e. e ≤ vote) (map (λ (_ : ℕ). vote) xs)
all_are vote [] k d h = absurd (omega arith)
all_are vote (x ∷ xs) zero d h = omega arith
all_are vote (x ∷ xs) (suc k) d h = all_are vote xs k d (omega arith)

none_more : (xs : List ℕ) → xs ++ [] ≡ xs
none_more [] = refl
none_more (x ∷ xs) = ap (λ ys. x ∷ ys) (none_more xs)

module _ (contents : List AttestationData) (old now : List HeldSpans) (votes : ℕ → List ℕ) (attesters : List ℕ) (vote i : ℕ) (validator : ℕ) (here : validator ≡ get_or attesters i 0) (inside : i < length attesters) (vote_in : vote < length contents)
    (low : AreLow vote votes) (before : AllStand contents old (λ w. votes w ++ votes_in w vote (take i attesters))) (taken : IsTaken contents old now validator vote) where
  low_now : (w : ℕ) → All (λ e. e ≤ vote) (votes w ++ votes_in w vote (take i attesters))
  unfolding votes_in
  low_now w = All-append (λ e. e ≤ vote) (votes w) _ (low.low w) (all_are vote (filter (λ a. a == w) (take i attesters)))

  longer_is : (w : ℕ) (b : Bool) → (get_or attesters i 0 == w) ≡ b → (votes w ++ votes_in w vote (take i attesters)) ++ cond b (vote ∷ []) [] ≡ votes w ++ votes_in w vote (take (i + 1) attesters)
  longer_is w b e = append_assoc (votes w) (votes_in w vote (take i attesters)) (cond b (vote ∷ []) []) ∙ ap (λ xs. votes w ++ xs) (ap (λ c. votes_in w vote (take i attesters) ++ cond c (vote ∷ []) []) (sym e) ∙ sym (votes_more w vote attesters i inside))

  pub stand_more : AllStand contents now (λ w. votes w ++ votes_in w vote (take (i + 1) attesters))
  stand_more = record {
    stands = λ w d h.
        let c = taken.count in
        let old_in : w < length old = omega arith in
        let own = before.stands w d old_in in
        elim (cases_eq w validator) [
          | inl e ↦
              let is : (get_or now w d).spans ≡ spans_after contents (get_or old w d).spans vote = ap (λ k. (get_or now k d).spans) e ∙ taken.own d (omega arith) ∙ ap (λ k. spans_after contents (get_or old k d).spans vote) (sym e) in
              subst (λ (p : PlainSpans). StandsFor contents p (votes w ++ votes_in w vote (take (i + 1) attesters))) (sym is)
              (subst (λ (xs : List ℕ). StandsFor contents (spans_after contents (get_or old w d).spans vote) xs) (longer_is w true (eq-eqb (get_or attesters i 0) w (sym here ∙ sym e)))
              (stands_after contents (get_or old w d).spans _ vote own vote_in (low_now w)))
          | inr other ↦
              subst (λ (x : HeldSpans). StandsFor contents x.spans (votes w ++ votes_in w vote (take (i + 1) attesters))) (sym (taken.others w d other))
              (subst (λ (xs : List ℕ). StandsFor contents (get_or old w d).spans xs) (sym (none_more _) ∙ longer_is w false (ne_eqb (get_or attesters i 0) w (λ e. other (sym e ∙ sym here)))) own)
        ];
  }

sorted_becomes : {U : Type 0} (r : Result U NoMemory) (contents : List AttestationData) (old now : PlainSpans) (vote : ℕ) → IsSorted contents old.votes → vote < length contents → Becomes r old now (spans_after contents old vote) → IsSorted contents now.votes
sorted_becomes (Ok x) contents old now vote sorted inside is = subst (λ (p : PlainSpans). IsSorted contents p.votes) (sym is) (sorted_after contents old vote sorted inside)
sorted_becomes (Err x) contents old now vote sorted inside is = subst (λ (p : PlainSpans). IsSorted contents p.votes) (sym is) sorted

pub sorted_all_set : {U : Type 0} (r : Result U NoMemory) (contents : List AttestationData) (spans : List HeldSpans) (i : ℕ) (own now : HeldSpans) (vote : ℕ) → AreSorted contents spans → i < length spans → own ≡ get_or spans i own → vote < length contents
    → Becomes r own.spans now.spans (spans_after contents own.spans vote) → AreSorted contents (set spans i now)
sorted_all_set r contents spans i own now vote are inside e vote_in is = record {
  sorted_all = All-set (λ h. IsSorted contents h.spans.votes) spans i now (sorted_becomes r contents own.spans now.spans vote (sorted_of contents spans i own inside e are) vote_in is) are.sorted_all;
}

-- ---- an attestation more

pub none_taken : (contents : List AttestationData) (spans : List HeldSpans) (votes : ℕ → List ℕ) (attesters : List ℕ) (vote : ℕ) → AllStand contents spans votes → AllStand contents spans (λ w. votes w ++ votes_in w vote (take 0 attesters))
unfolding votes_in
none_taken contents spans votes attesters vote all = record { stands = λ w d h. subst (λ (xs : List ℕ). StandsFor contents (get_or spans w d).spans xs) (sym (none_more (votes w))) (all.stands w d h) }

below : (count vote : ℕ) (xs : List ℕ) → count < vote → All (λ e. e < vote) (map (λ (_ : ℕ). count) xs)
below count vote [] less k d h = absurd (omega arith)
below count vote (x ∷ xs) less zero d h = less
below count vote (x ∷ xs) less (suc k) d h = below count vote xs less k d (omega arith)

votes_low : (w n : ℕ) (attested : List (List ℕ)) (vote : ℕ) → n + length attested ≤ vote → All (λ e. e < vote) (votes_from w n attested)
unfolding votes_from votes_in
votes_low w n [] vote le k d h = absurd (omega arith)
votes_low w n (attesters ∷ attested) vote le k d h = All-append (λ e. e < vote) _ (votes_from w (suc n) attested) (below n vote (filter (λ a. a == w) attesters) (omega arith)) (votes_low w (suc n) attested vote (omega arith)) k d h

-- the votes of one attestation more stand behind the others
from_more : (w n : ℕ) (attested : List (List ℕ)) (attesters : List ℕ) → votes_from w n (attested ++ attesters ∷ []) ≡ votes_from w n attested ++ votes_in w (n + length attested) attesters
unfolding votes_from
from_more w n [] attesters = none_more (votes_in w n attesters) ∙ ap (λ k. votes_in w k attesters) (let e : n ≡ n + 0 = omega arith in e)
from_more w n (x ∷ attested) attesters =
    ap (λ vs. votes_in w n x ++ vs) (from_more w (suc n) attested attesters ∙ ap (λ k. votes_from w (suc n) attested ++ votes_in w k attesters) (let e : suc n + length attested ≡ n + suc (length attested) = omega arith in e))
    ∙ sym (append_assoc (votes_in w n x) (votes_from w (suc n) attested) (votes_in w (n + suc (length attested)) attesters))

pub all_spans_low : (all_spans : PlainAllSpans) (attested : List (List ℕ)) → AreSpansOf all_spans attested → AreLow (length all_spans.contents) (λ w. votes_of w attested)
unfolding votes_of
all_spans_low all_spans attested is = record { low = λ w. All-weaker (λ e. e < length all_spans.contents) (λ e. e ≤ length all_spans.contents) (λ e h. omega arith) (votes_of w attested) (votes_low w 0 attested (length all_spans.contents) (let c = is.count in omega arith)) }

pub all_spans_still : (all_spans : PlainAllSpans) (attested : List (List ℕ)) (content : AttestationData) → AreSpansOf all_spans attested → AllStand (all_spans.contents ++ content ∷ []) all_spans.spans (λ w. votes_of w attested)
all_spans_still all_spans attested content is = record { stands = λ w d h. stands_still all_spans.contents (content ∷ []) (get_or all_spans.spans w d).spans (votes_of w attested) (is.all.stands w d h) }

pub sorted_all_still : (contents : List AttestationData) (spans : List HeldSpans) (content : AttestationData) → AreSorted contents spans → AreSorted (contents ++ content ∷ []) spans
sorted_all_still contents spans content are = record { sorted_all = λ k d h. sorted_still contents (content ∷ []) (get_or spans k d).spans.votes (are.sorted_all k d h) }

pub all_spans_more : (all_spans : PlainAllSpans) (attested : List (List ℕ)) (content : AttestationData) (attesters : List ℕ) (now : List HeldSpans) (room : ℕ) → AreSpansOf all_spans attested
    → AllStand (all_spans.contents ++ content ∷ []) now (λ w. votes_of w attested ++ votes_in w (length all_spans.contents) attesters)
    → AreSpansOf (record { contents = all_spans.contents ++ content ∷ []; spans = now; room = room }) (attested ++ attesters ∷ [])
unfolding votes_of
all_spans_more all_spans attested content attesters now room is all = record {
  count = (let c = is.count in omega (arith, length-append all_spans.contents (content ∷ []), length-append attested (attesters ∷ [])));
  all = record {
    stands = λ w d h.
        subst (λ (votes : List ℕ). StandsFor (all_spans.contents ++ content ∷ []) (get_or now w d).spans votes) (sym (from_more w 0 attested attesters ∙ ap (λ k. votes_from w 0 attested ++ votes_in w k attesters) (let e : 0 + length attested ≡ length attested = omega arith in e)))
        (subst (λ (n : ℕ). StandsFor (all_spans.contents ++ content ∷ []) (get_or now w d).spans (votes_from w 0 attested ++ votes_in w n attesters)) is.count (all.stands w d h));
  };
}

pub all_spans_taken : {U : Type 0} (r : Result U NoMemory) (old : PlainAllSpans) (contents now_contents seen : List AttestationData) (spans now : List HeldSpans) (room now_room : ℕ) (content : AttestationData) (attesters : List ℕ) (vote : ℕ)
    → record { contents = contents; spans = spans; room = room } ≡ old → now_contents ≡ contents ++ content ∷ [] → seen ≡ now_contents → vote ≡ length contents
    → ((votes : ℕ → List ℕ) → AreLow vote votes → AllStand seen spans votes → OnOk r (AllStand seen now (λ w. votes w ++ votes_in w vote attesters)))
    → (attested : List (List ℕ)) → AreSpansOf old attested → OnOk r (AreSpansOf (record { contents = now_contents; spans = now; room = now_room }) (attested ++ attesters ∷ []))
all_spans_taken (Err x) old contents now_contents seen spans now room now_room content attesters vote held pushed read place stand attested is = tt
all_spans_taken (Ok x) old contents now_contents seen spans now room now_room content attesters vote held pushed read place stand attested is =
    let own : PlainAllSpans = record { contents = contents; spans = spans; room = room } in
    let is_own : AreSpansOf own attested = subst (λ (p : PlainAllSpans). AreSpansOf p attested) (sym held) is in
    let low : AreLow vote (λ w. votes_of w attested) = subst (λ (n : ℕ). AreLow n (λ w. votes_of w attested)) (sym place) (all_spans_low own attested is_own) in
    let seen_is : seen ≡ contents ++ content ∷ [] = read ∙ pushed in
    let before : AllStand seen spans (λ w. votes_of w attested) = subst (λ (xs : List AttestationData). AllStand xs spans (λ w. votes_of w attested)) (sym seen_is) (all_spans_still own attested content is_own) in
    let all : AllStand seen now (λ w. votes_of w attested ++ votes_in w vote attesters) = stand (λ w. votes_of w attested) low before in
    let all_own : AllStand (contents ++ content ∷ []) now (λ w. votes_of w attested ++ votes_in w (length contents) attesters) =
    subst (λ (n : ℕ). AllStand (contents ++ content ∷ []) now (λ w. votes_of w attested ++ votes_in w n attesters)) place
    (subst (λ (xs : List AttestationData). AllStand xs now (λ w. votes_of w attested ++ votes_in w vote attesters)) seen_is all) in
    subst (λ (xs : List AttestationData). AreSpansOf (record { contents = xs; spans = now; room = now_room }) (attested ++ attesters ∷ [])) (sym pushed) (all_spans_more own attested content attesters now now_room is_own all_own)

-- what spans stand for stays where they have more room
pub stands_same : (contents now_contents : List AttestationData) (old now : List HeldSpans) (room now_room : ℕ) (attested : List (List ℕ)) → now_contents ≡ contents → IsSame old now
    → AreSpansOf (record { contents = contents; spans = old; room = room }) attested → AreSpansOf (record { contents = now_contents; spans = now; room = now_room }) attested
stands_same contents now_contents old now room now_room attested e same are = subst (λ (xs : List AttestationData). AreSpansOf (record { contents = xs; spans = now; room = now_room }) attested) (sym e) (record {
  count = are.count;
  all = record {
    stands = λ w d h.
        let c = same.count in
        let low : w < length old = omega arith in
        subst (λ (p : PlainSpans). StandsFor contents p (votes_of w attested)) (sym (same.spans w d low)) (are.all.stands w d low);
  };
})
