-- Room, vote by vote.
use Rattle.std.proofs.Common.{◌≡◌, ◌∙◌, ℕ, ◌+◌, ◌<◌, ◌≤◌, inl, inr, cond, ◌==◌, List, length, get_or, set, take, drop, refl, sym, ap, arith}
use Rattle.std.specs.List.{count_by}
use Rattle.std.proofs.lemmas.Bool.{cases_eq, eq-eqb, ne_eqb}
use Rattle.std.proofs.lemmas.List.{get_or_read, get_or-set_same, get_or-set_other}
use Rattle.std.proofs.lemmas.List.Sums.{count_by_more_yes, count_by_more_no, sum_by-take-drop}
use Rattle.std.proofs.Math.ListN.{length-set}
use Rattle.forensics.specs.Spans.{HeldSpans}
use Rattle.forensics.specs.Room.{one_of, all_of, HasRoom, Grows}

one_is : (validator other : ℕ) → validator ≡ other → one_of validator other ≡ 1
unfolding one_of
one_is validator other e = ap (λ b. cond b 1 0) (eq-eqb validator other e)

none_is : (validator other : ℕ) → (validator ≡ other → ⊥) → one_of validator other ≡ 0
unfolding one_of
none_is validator other e = ap (λ b. cond b 1 0) (ne_eqb validator other e)

pub grows_none : (spans : List HeldSpans) (more : ℕ → ℕ) → Grows spans spans more
grows_none spans more = record { count = refl; votes = λ w d h. omega arith; room = λ w d h. omega arith }

module _ (spans : List HeldSpans) (validator : ℕ) (own : HeldSpans) (inside : validator < length spans) (e : own ≡ get_or spans validator own) where
  own_at : (w : ℕ) (d : HeldSpans) → w ≡ validator → get_or spans w d ≡ own
  own_at w d same = ap (λ k. get_or spans k d) same ∙ sym (get_or_read spans validator own inside e d)

  module _ (now : HeldSpans) where
    new_at : (w : ℕ) (d : HeldSpans) → w ≡ validator → get_or (set spans validator now) w d ≡ now
    new_at w d same = ap (λ k. get_or (set spans validator now) k d) same ∙ get_or-set_same spans validator now d inside

    -- one validator's spans are others
    pub grows_one : length now.spans.votes ≤ length own.spans.votes + 1 → own.room ≤ now.room → Grows spans (set spans validator now) (one_of validator)
    grows_one few more = record {
      count = length-set spans validator now;
      votes = λ w d h. elim (cases_eq w validator) [
        | inl same ↦
            let a : length (get_or (set spans validator now) w d).spans.votes ≡ length now.spans.votes = ap (λ (h : HeldSpans). length h.spans.votes) (new_at w d same) in
            let b : length (get_or spans w d).spans.votes ≡ length own.spans.votes = ap (λ (h : HeldSpans). length h.spans.votes) (own_at w d same) in
            let c : one_of validator w ≡ 1 = one_is validator w (sym same) in
            omega arith
        | inr other ↦
            let a : length (get_or (set spans validator now) w d).spans.votes ≡ length (get_or spans w d).spans.votes = ap (λ (h : HeldSpans). length h.spans.votes) (get_or-set_other spans validator w now d other) in
            omega arith
      ];
      room = λ w d h. elim (cases_eq w validator) [
        | inl same ↦
            let a : (get_or (set spans validator now) w d).room ≡ now.room = ap (λ (h : HeldSpans). h.room) (new_at w d same) in
            let b : (get_or spans w d).room ≡ own.room = ap (λ (h : HeldSpans). h.room) (own_at w d same) in
            omega arith
        | inr other ↦
            let a : (get_or (set spans validator now) w d).room ≡ (get_or spans w d).room = ap (λ (h : HeldSpans). h.room) (get_or-set_other spans validator w now d other) in
            omega arith
      ];
    }

  pub room_for_one : HasRoom spans (one_of validator) → length own.spans.votes < own.room
  room_for_one has =
      let c : one_of validator validator ≡ 1 = one_is validator validator refl in
      let r = has.room validator own inside (omega arith) in
      let b : length (get_or spans validator own).spans.votes ≡ length own.spans.votes = ap (λ (h : HeldSpans). length h.spans.votes) (sym e) in
      let d : (get_or spans validator own).room ≡ own.room = ap (λ (h : HeldSpans). h.room) (sym e) in
      omega arith

-- ---- in a walk over attesters

count_up : (attesters : List ℕ) (i w : ℕ) → i < length attesters → get_or attesters i 0 ≡ w → all_of (take (i + 1) attesters) w ≡ all_of (take i attesters) w + 1
unfolding all_of
count_up attesters i w inside e = count_by_more_yes (λ a. a == w) attesters i 0 inside (eq-eqb (get_or attesters i 0) w e)

count_stays : (attesters : List ℕ) (i w : ℕ) → i < length attesters → (get_or attesters i 0 ≡ w → ⊥) → all_of (take (i + 1) attesters) w ≡ all_of (take i attesters) w
unfolding all_of
count_stays attesters i w inside e = count_by_more_no (λ a. a == w) attesters i 0 inside (ne_eqb (get_or attesters i 0) w e)

count_part : (attesters : List ℕ) (n w : ℕ) → all_of (take n attesters) w ≤ all_of attesters w
unfolding all_of
count_part attesters n w = let s : count_by (λ a. a == w) (take n attesters) + count_by (λ a. a == w) (drop n attesters) ≡ count_by (λ a. a == w) attesters = sum_by-take-drop (λ a. cond (a == w) 1 0) attesters n in omega arith

module _ (attesters : List ℕ) (i validator : ℕ) (inside : i < length attesters) (e : validator ≡ get_or attesters i 0) where
  pub room_left : (old now : List HeldSpans) → Grows old now (all_of (take i attesters)) → HasRoom old (all_of attesters) → HasRoom now (one_of validator)
  room_left old now grows has = record {
    room = λ w d h some. elim (cases_eq validator w) [
      | inl same ↦
          let one : one_of validator w ≡ 1 = one_is validator w same in
          let up : all_of (take (i + 1) attesters) w ≡ all_of (take i attesters) w + 1 = count_up attesters i w inside (sym e ∙ same) in
          let part : all_of (take (i + 1) attesters) w ≤ all_of attesters w = count_part attesters (i + 1) w in
          let c = grows.count in
          let v = grows.votes w d (omega arith) in
          let r = grows.room w d (omega arith) in
          let o = has.room w d (omega arith) (omega arith) in
          omega arith
      | inr other ↦ absurd (let none : one_of validator w ≡ 0 = none_is validator w other in omega arith)
    ];
  }

  pub grows_more : (old mid now : List HeldSpans) → Grows old mid (all_of (take i attesters)) → Grows mid now (one_of validator) → Grows old now (all_of (take (i + 1) attesters))
  grows_more old mid now first second =
      let c = first.count in
      record {
        count = second.count ∙ first.count;
        votes = λ w d h.
            let v = first.votes w d h in
            let u = second.votes w d (omega arith) in
            elim (cases_eq validator w) [
              | inl same ↦
                  let one : one_of validator w ≡ 1 = one_is validator w same in
                  let up : all_of (take (i + 1) attesters) w ≡ all_of (take i attesters) w + 1 = count_up attesters i w inside (sym e ∙ same) in
                  omega arith
              | inr other ↦
                  let none : one_of validator w ≡ 0 = none_is validator w other in
                  let stays : all_of (take (i + 1) attesters) w ≡ all_of (take i attesters) w = count_stays attesters i w inside (λ h'. other (e ∙ h')) in
                  omega arith
            ];
        room = λ w d h. let v = first.room w d h in let u = second.room w d (omega arith) in omega arith;
      }

pub grows_part : (old now : List HeldSpans) (attesters : List ℕ) (i : ℕ) → Grows old now (all_of (take i attesters)) → Grows old now (all_of attesters)
grows_part old now attesters i grows = record {
  count = grows.count;
  votes = λ w d h. let v = grows.votes w d h in let part : all_of (take i attesters) w ≤ all_of attesters w = count_part attesters i w in omega arith;
  room = grows.room;
}

-- one that fails adds nothing
pub grows_on : (old now : List HeldSpans) (attesters : List ℕ) (i validator : ℕ) (mid : List HeldSpans) → i < length attesters → validator ≡ get_or attesters i 0 → Grows old mid (all_of (take i attesters)) → Grows mid now (one_of validator) → Grows old now (all_of attesters)
grows_on old now attesters i validator mid inside e first second = grows_part old now attesters (i + 1) (grows_more attesters i validator inside e old mid now first second)

-- what is left of room
pub room_after : (old now : List HeldSpans) (need more : ℕ → ℕ) → HasRoom old (λ w. need w + more w) → Grows old now more → HasRoom now need
room_after old now need more has grows = record {
  room = λ w d h some.
      let c = grows.count in
      let v = grows.votes w d (omega arith) in
      let r = grows.room w d (omega arith) in
      let o = has.room w d (omega arith) (omega arith) in
      omega arith;
}

pub ruleset rooming = (grows_none)
