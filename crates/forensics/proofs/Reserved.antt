-- Room that is made, attester by attester and list by list.
use Rattle.std.proofs.Common.{◌≡◌, ◌∙◌, ℕ, ◌+◌, ◌<◌, ◌≤◌, inl, inr, cond, ◌==◌, List, [], ◌∷◌, length, get_or, set, take, Result, Ok, Err, OnOk, refl, sym, ap, subst, arith}
use Rattle.std.specs.List.{All, count_by}
use Rattle.std.proofs.lemmas.Bool.{cases_eq, eq-eqb, ne_eqb}
use Rattle.std.proofs.lemmas.List.Elements.{All-nil, All-push, All-weaker}
use Rattle.std.proofs.lemmas.List.{take_more, get_or_read, get_or-set_same, get_or-set_other}
use Rattle.std.proofs.lemmas.List.Sums.{count_by_more_no}
use Rattle.std.proofs.Math.ListN.{length-set}
use Rattle.bc_words.specs.declared.stop.NoMemory.{NoMemory}
use Rattle.beacon_types.specs.declared.attestation_data.AttestationData.{AttestationData}
use Rattle.forensics.specs.Spans.{HeldSpans, PlainSpans, IsSorted}
use Rattle.forensics.specs.AllSpans.{AreSorted}
use Rattle.forensics.specs.Room.{all_of, IsSame, IsReserved, AreReserved}

pub same_yet : (spans : List HeldSpans) → IsSame spans spans
same_yet spans = record { count = refl; spans = λ w d h. refl; room = λ w d h. omega arith }

pub same_on : (old mid now : List HeldSpans) → IsSame old mid → IsSame mid now → IsSame old now
same_on old mid now one other = let c = one.count in record {
  count = other.count ∙ one.count;
  spans = λ w d h. other.spans w d (omega arith) ∙ one.spans w d h;
  room = λ w d h. let r = one.room w d h in let s = other.room w d (omega arith) in omega arith;
}

pub same_set : (spans : List HeldSpans) (i : ℕ) (own now : HeldSpans) → i < length spans → own ≡ get_or spans i own → now.spans ≡ own.spans → own.room ≤ now.room → IsSame spans (set spans i now)
same_set spans i own now inside e same more = record {
  count = length-set spans i now;
  spans = λ w d h. elim (cases_eq w i) [
    | inl at ↦ ap (λ k. (get_or (set spans i now) k d).spans) at ∙ ap (λ (x : HeldSpans). x.spans) (get_or-set_same spans i now d inside) ∙ same ∙ ap (λ (x : HeldSpans). x.spans) (get_or_read spans i own inside e d) ∙ ap (λ k. (get_or spans k d).spans) (sym at)
    | inr other ↦ ap (λ (x : HeldSpans). x.spans) (get_or-set_other spans i w now d other)
  ];
  room = λ w d h. elim (cases_eq w i) [
    | inl at ↦
        let a : (get_or (set spans i now) w d).room ≡ now.room = ap (λ k. (get_or (set spans i now) k d).room) at ∙ ap (λ (x : HeldSpans). x.room) (get_or-set_same spans i now d inside) in
        let b : own.room ≡ (get_or spans w d).room = ap (λ (x : HeldSpans). x.room) (get_or_read spans i own inside e d) ∙ ap (λ k. (get_or spans k d).room) (sym at) in
        omega arith
    | inr other ↦ let a : (get_or (set spans i now) w d).room ≡ (get_or spans w d).room = ap (λ (x : HeldSpans). x.room) (get_or-set_other spans i w now d other) in omega arith
  ];
}

-- ---- one attester, one list and all lists

one_alone : (validator w : ℕ) → 0 < all_of (validator ∷ []) w → validator ≡ w
unfolding all_of
one_alone validator w some = elim (cases_eq validator w) [
  | inl same ↦ same
  | inr other ↦ absurd (let e : count_by (λ a. a == w) (validator ∷ []) ≡ 0 = ap (λ b. 0 + cond b 1 0) (ne_eqb validator w other) in omega arith)
]

pub one_reserved : (spans : List HeldSpans) (i count : ℕ) (now : HeldSpans) → i < length spans → length now.spans.votes + count ≤ now.room → IsReserved (set spans i now) count (i ∷ [])
one_reserved spans i count now inside room = record {
  room = λ w d h some.
      let at : i ≡ w = one_alone i w some in
      let x : get_or (set spans i now) w d ≡ now = ap (λ k. get_or (set spans i now) k d) (sym at) ∙ get_or-set_same spans i now d inside in
      subst (λ (h : HeldSpans). length h.spans.votes + count ≤ h.room) (sym x) room;
}

pub reserved_by : {U : Type 0} (r : Result U NoMemory) (spans : List HeldSpans) (i count : ℕ) (own now : HeldSpans) → i < length spans → now.spans ≡ own.spans → OnOk r (length own.spans.votes + count ≤ now.room) → OnOk r (IsReserved (set spans i now) count (i ∷ []))
reserved_by (Err x) spans i count own now inside same room = tt
reserved_by (Ok x) spans i count own now inside same room = one_reserved spans i count now inside (let v : length now.spans.votes ≡ length own.spans.votes = ap (λ (p : PlainSpans). length p.votes) same in omega arith)

pub none_reserved : (spans : List HeldSpans) (i count : ℕ) → length spans ≤ i → IsReserved spans count (i ∷ [])
none_reserved spans i count over = record { room = λ w d h some. let at : i ≡ w = one_alone i w some in absurd (omega arith) }

pub nobody_reserved : (spans : List HeldSpans) (count : ℕ) → IsReserved spans count []
unfolding all_of
nobody_reserved spans count = record { room = λ w d h some. absurd (omega arith) }

pub still_reserved : (old now : List HeldSpans) (count : ℕ) (attesters : List ℕ) → IsSame old now → IsReserved old count attesters → IsReserved now count attesters
still_reserved old now count attesters same is = record {
  room = λ w d h some.
      let c = same.count in
      let low : w < length old = omega arith in
      let r = is.room w d low some in
      let m = same.room w d low in
      let v : length (get_or now w d).spans.votes ≡ length (get_or old w d).spans.votes = ap (λ (p : PlainSpans). length p.votes) (same.spans w d low) in
      omega arith;
}

module _ (attesters : List ℕ) (i validator : ℕ) (inside : i < length attesters) (e : validator ≡ get_or attesters i 0) (old now : List HeldSpans) (count : ℕ) where
  pub next_reserved : IsSame old now → IsReserved old count (take i attesters) → IsReserved now count (validator ∷ []) → IsReserved now count (take (i + 1) attesters)
  unfolding all_of
  next_reserved same before one = record {
    room = λ w d h some. elim (cases_eq validator w) [
      | inl at ↦ one.room w d h (let x : count_by (λ a. a == w) (validator ∷ []) ≡ 1 = ap (λ b. 0 + cond b 1 0) (eq-eqb validator w at) in omega arith)
      | inr other ↦
          let s : count_by (λ a. a == w) (take (i + 1) attesters) ≡ count_by (λ a. a == w) (take i attesters) = count_by_more_no (λ a. a == w) attesters i 0 inside (ne_eqb (get_or attesters i 0) w (λ at. other (e ∙ at))) in
          (still_reserved old now count (take i attesters) same before).room w d h (omega arith)
    ];
  }

pub no_list_reserved : (spans : List HeldSpans) (count : ℕ) → AreReserved spans count []
no_list_reserved spans count = record { each = All-nil (IsReserved spans count) }

pub list_reserved : (old now : List HeldSpans) (count i : ℕ) (lists : List (List ℕ)) (attesters : List ℕ) → i < length lists → attesters ≡ get_or lists i [] → IsSame old now → AreReserved old count (take i lists) → IsReserved now count attesters → AreReserved now count (take (i + 1) lists)
list_reserved old now count i lists attesters inside e same before one = record {
  each = subst (All (IsReserved now count)) (sym (take_more lists i [] inside)) (All-push (IsReserved now count) (take i lists) (get_or lists i []) (All-weaker (IsReserved old count) (IsReserved now count) (λ xs is. still_reserved old now count xs same is) (take i lists) before.each) (subst (IsReserved now count) e one));
}

-- the spans stay sorted
pub sorted_same : (contents now_contents : List AttestationData) (old now : List HeldSpans) → now_contents ≡ contents → IsSame old now → AreSorted contents old → AreSorted now_contents now
sorted_same contents now_contents old now e same are = record {
  sorted_all = λ w d h.
      let c = same.count in
      let low : w < length old = omega arith in
      subst (λ (xs : List AttestationData). IsSorted xs (get_or now w d).spans.votes) (sym e) (subst (λ (p : PlainSpans). IsSorted contents p.votes) (sym (same.spans w d low)) (are.sorted_all w d low));
}

pub ruleset one_by_one = (same_yet, none_reserved, nobody_reserved, no_list_reserved)
