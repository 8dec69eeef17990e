-- What is counted at a node, where one balance is counted anew.
use Rattle.std.proofs.Common.{◌≡◌, ℕ, zero, suc, ◌+◌, ◌*◌, ◌<◌, ◌≤◌, ◌^◌, ◌⊎◌, inl, inr, Bool, true, false, cond, eqb, List, [], ◌∷◌, ◌++◌, length, get_or, set, refl, sym, ap, ◌∙◌, subst, arith, length-append}
use Rattle.std.specs.List.{All}
use Rattle.std.proofs.Math.ListN.{length-set}
use Rattle.std.proofs.lemmas.Bool.{cases_eq, cases_lt, eq-eqb, ne_eqb}
use Rattle.std.proofs.lemmas.List.{get_or-set_same, get_or-set_other, get_or_append_left, get_or_push}
use Rattle.std.proofs.lemmas.List.Elements.{All-nil, All-head, All-tail, All-set, All-push, All-cons, All-weaker, All-get_or}
use Rattle.std.proofs.lemmas.List.Sums.{sum_by-cons, sum_by-set, sum_by_push, get_or-le-sum_by}
use Rattle.block_array.specs.declared.tally.Counted.{Counted}
use Rattle.block_array.specs.inside.Counts.{nothing, share, counted_at, IsBelow, Fits, IsTally}

-- ---- one number of a list, more or less

module _ (own : List ℕ) (place number : ℕ) (inside : place < length own) where
  less_by : (less amount : ℕ) → less + amount ≡ get_or own place 0 → (place ≡ number) ⊎ (place ≡ number → ⊥) → get_or (set own place less) number 0 + cond (eqb place number) amount 0 ≡ get_or own number 0
  less_by less amount e (inl p) =
      let c : cond (eqb place number) amount 0 ≡ amount = ap (λ b. cond b amount 0) (eq-eqb place number p) in
      let s : get_or (set own place less) number 0 ≡ less = ap (λ k. get_or (set own place less) k 0) (sym p) ∙ get_or-set_same own place less 0 inside in
      let o : get_or own place 0 ≡ get_or own number 0 = ap (λ k. get_or own k 0) p in
      omega arith
  less_by less amount e (inr n) =
      let c : cond (eqb place number) amount 0 ≡ 0 = ap (λ b. cond b amount 0) (ne_eqb place number n) in
      let s : get_or (set own place less) number 0 ≡ get_or own number 0 = get_or-set_other own place number less 0 (λ e. n (sym e)) in
      omega arith

  pub less_at : (less amount : ℕ) → less + amount ≡ get_or own place 0 → get_or (set own place less) number 0 + cond (eqb place number) amount 0 ≡ get_or own number 0
  less_at less amount e = less_by less amount e (cases_eq place number)

  more_by : (amount : ℕ) → (place ≡ number) ⊎ (place ≡ number → ⊥) → get_or (set own place (get_or own place 0 + amount)) number 0 ≡ get_or own number 0 + cond (eqb place number) amount 0
  more_by amount (inl p) =
      let c : cond (eqb place number) amount 0 ≡ amount = ap (λ b. cond b amount 0) (eq-eqb place number p) in
      let s : get_or (set own place (get_or own place 0 + amount)) number 0 ≡ get_or own place 0 + amount = ap (λ k. get_or (set own place (get_or own place 0 + amount)) k 0) (sym p) ∙ get_or-set_same own place (get_or own place 0 + amount) 0 inside in
      let o : get_or own place 0 ≡ get_or own number 0 = ap (λ k. get_or own k 0) p in
      omega arith
  more_by amount (inr n) =
      let c : cond (eqb place number) amount 0 ≡ 0 = ap (λ b. cond b amount 0) (ne_eqb place number n) in
      let s : get_or (set own place (get_or own place 0 + amount)) number 0 ≡ get_or own number 0 = get_or-set_other own place number (get_or own place 0 + amount) 0 (λ e. n (sym e)) in
      omega arith

  pub more_at : (amount : ℕ) → get_or (set own place (get_or own place 0 + amount)) number 0 ≡ get_or own number 0 + cond (eqb place number) amount 0
  more_at amount = more_by amount (cases_eq place number)

-- ---- what is counted

module _ (test : ℕ → Bool) where
  pub counted_cons : (c : Counted) (cs : List Counted) → counted_at test (c ∷ cs) ≡ cond (test c.node) c.balance 0 + counted_at test cs
  unfolding counted_at share
  counted_cons c cs = sum_by-cons (share test) c cs

  pub counted_set : (cs : List Counted) (k : ℕ) (new d : Counted) → k < length cs → counted_at test (set cs k new) + cond (test (get_or cs k d).node) (get_or cs k d).balance 0 ≡ counted_at test cs + cond (test new.node) new.balance 0
  unfolding counted_at share
  counted_set cs k new d inside = sum_by-set (share test) cs k new d inside

  pub counted_swap : (cs : List Counted) (k : ℕ) (new old : Counted) → k < length cs → old ≡ get_or cs k old → counted_at test (set cs k new) + cond (test old.node) old.balance 0 ≡ counted_at test cs + cond (test new.node) new.balance 0
  counted_swap cs k new old inside is = subst (λ (o : Counted). counted_at test (set cs k new) + cond (test o.node) o.balance 0 ≡ counted_at test cs + cond (test new.node) new.balance 0) (sym is) (counted_set cs k new old inside)

  counted_one : (cs : List Counted) (k : ℕ) (d : Counted) → k < length cs → cond (test (get_or cs k d).node) (get_or cs k d).balance 0 ≤ counted_at test cs
  unfolding counted_at share
  counted_one cs k d inside = get_or-le-sum_by (share test) cs k d inside

  pub counted_old : (cs : List Counted) (k : ℕ) (old : Counted) → k < length cs → old ≡ get_or cs k old → cond (test old.node) old.balance 0 ≤ counted_at test cs
  counted_old cs k old inside is = subst (λ (o : Counted). cond (test o.node) o.balance 0 ≤ counted_at test cs) (sym is) (counted_one cs k old inside)

  no_share : (b : Bool) → cond b 0 0 ≡ (let z : ℕ = 0 in z)
  no_share true = refl
  no_share false = refl

  pub counted_push : (cs : List Counted) → counted_at test (cs ++ nothing ∷ []) ≡ counted_at test cs
  unfolding counted_at share
  counted_push cs =
      let e : counted_at test (cs ++ nothing ∷ []) ≡ counted_at test cs + cond (test 0) 0 0 = sum_by_push (share test) cs nothing in
      let z : cond (test 0) 0 0 ≡ (let z : ℕ = 0 in z) = no_share (test 0) in
      omega arith

  share_le : (b : Bool) (n : ℕ) → cond b n 0 ≤ n
  share_le true n = omega arith
  share_le false n = omega arith

  pub counted_le : (cs : List Counted) → All Fits cs → counted_at test cs ≤ length cs * 2 ^ 64
  unfolding counted_at
  counted_le [] fits = omega arith
  counted_le (c ∷ cs) fits =
      let h : c.balance < 2 ^ 64 = All-head Fits c cs fits in
      let s : cond (test c.node) c.balance 0 ≤ c.balance = share_le (test c.node) c.balance in
      let rest : counted_at test cs ≤ length cs * 2 ^ 64 = counted_le cs (All-tail Fits c cs fits) in
      let e : counted_at test (c ∷ cs) ≡ cond (test c.node) c.balance 0 + counted_at test cs = counted_cons c cs in
      omega arith

pub counted_past : (nodes : ℕ) (cs : List Counted) → All (IsBelow nodes) cs → counted_at (λ n. eqb n nodes) cs ≡ 0
unfolding counted_at
counted_past nodes [] below = refl
counted_past nodes (c ∷ cs) below =
    let h : c.node < nodes = All-head (IsBelow nodes) c cs below in
    let s : cond (eqb c.node nodes) c.balance 0 ≡ 0 = ap (λ b. cond b c.balance 0) (ne_eqb c.node nodes (λ e. omega arith)) in
    let rest : counted_at (λ n. eqb n nodes) cs ≡ 0 = counted_past nodes cs (All-tail (IsBelow nodes) c cs below) in
    let e : counted_at (λ n. eqb n nodes) (c ∷ cs) ≡ cond (eqb c.node nodes) c.balance 0 + counted_at (λ n. eqb n nodes) cs = counted_cons (λ n. eqb n nodes) c cs in
    omega arith

-- ---- the tally

abbrev at : ℕ → ℕ → Bool
at number n = eqb n number

begun_at : (number : ℕ) → number < 1 → get_or (0 ∷ []) number 0 ≡ counted_at (at number) (nothing ∷ [])
unfolding counted_at share
begun_at zero inside = refl
begun_at (suc number) inside = absurd (omega arith)

pub begun : IsTally (0 ∷ []) nothing []
begun = record {
  exact = begun_at;
  boost_below = omega arith;
  below = All-nil (IsBelow 1);
  boost_fits = omega arith;
  fits = All-nil Fits;
  few = omega arith;
}

module _ (own : List ℕ) (boost : Counted) (validators : List Counted) (tally : IsTally own boost validators) where
  pub all_below : All (IsBelow (length own)) (boost ∷ validators)
  all_below = All-cons (IsBelow (length own)) boost validators tally.boost_below tally.below

  node_at : (number : ℕ) → (number < length own) ⊎ (length own ≤ number) → number < length (own ++ 0 ∷ []) → get_or (own ++ 0 ∷ []) number 0 ≡ counted_at (at number) (boost ∷ validators)
  node_at number (inl inside) more = get_or_append_left own (0 ∷ []) 0 number inside ∙ tally.exact number inside
  node_at number (inr past) more =
      let last : length own ≡ number = omega (arith, length-append own (0 ∷ [])) in
      get_or_push own 0 0 number last ∙ sym (ap (λ k. counted_at (at k) (boost ∷ validators)) (sym last) ∙ counted_past (length own) (boost ∷ validators) all_below)

  wider : (c : Counted) → IsBelow (length own) c → IsBelow (length (own ++ 0 ∷ [])) c
  wider c h = omega (arith, length-append own (0 ∷ []))

  pub tally_node : IsTally (own ++ 0 ∷ []) boost validators
  tally_node = record {
    exact = λ number inside. node_at number (cases_lt number (length own)) inside;
    boost_below = wider boost tally.boost_below;
    below = All-weaker (IsBelow (length own)) (IsBelow (length (own ++ 0 ∷ []))) wider validators tally.below;
    boost_fits = tally.boost_fits;
    fits = tally.fits;
    few = tally.few;
  }

  pub tally_validator : length validators < 2 ^ 40 → IsTally own boost (validators ++ nothing ∷ [])
  tally_validator more = record {
    exact = λ number inside. tally.exact number inside ∙ sym (counted_push (at number) (boost ∷ validators));
    boost_below = tally.boost_below;
    below = All-push (IsBelow (length own)) validators nothing tally.below (let b : boost.node < length own = tally.boost_below in omega arith);
    boost_fits = tally.boost_fits;
    fits = All-push Fits validators nothing tally.fits (omega arith);
    few = omega (arith, length-append validators (nothing ∷ []));
  }

  pub all_low : (test : ℕ → Bool) → counted_at test (boost ∷ validators) < 2 ^ 113
  all_low test =
      let e : counted_at test (boost ∷ validators) ≡ cond (test boost.node) boost.balance 0 + counted_at test validators = counted_cons test boost validators in
      let s : cond (test boost.node) boost.balance 0 ≤ boost.balance = share_le test (test boost.node) boost.balance in
      let b : boost.balance < 2 ^ 112 = tally.boost_fits in
      let r : counted_at test validators ≤ length validators * 2 ^ 64 = counted_le test validators tally.fits in
      let f : length validators ≤ 2 ^ 40 = tally.few in
      omega arith

  total : (number : ℕ) → number < length own → get_or own number 0 < 2 ^ 112 + 2 ^ 104
  total number inside =
      let e : counted_at (at number) (boost ∷ validators) ≡ cond (eqb boost.node number) boost.balance 0 + counted_at (at number) validators = counted_cons (at number) boost validators in
      let s : cond (eqb boost.node number) boost.balance 0 ≤ boost.balance = share_le (at number) (eqb boost.node number) boost.balance in
      let b : boost.balance < 2 ^ 112 = tally.boost_fits in
      let r : counted_at (at number) validators ≤ length validators * 2 ^ 64 = counted_le (at number) validators tally.fits in
      let f : length validators ≤ 2 ^ 40 = tally.few in
      let x : get_or own number 0 ≡ counted_at (at number) (boost ∷ validators) = tally.exact number inside in
      omega arith

  module _ (k : ℕ) (old : Counted) (inside : k < length validators) (is : old ≡ get_or validators k old) where
    pub old_below : old.node < length own
    old_below = subst (λ (o : Counted). o.node < length own) (sym is) (All-get_or (IsBelow (length own)) validators k old inside tally.below)

    old_fits : old.balance < 2 ^ 64
    old_fits = subst (λ (o : Counted). o.balance < 2 ^ 64) (sym is) (All-get_or Fits validators k old inside tally.fits)

    pub tally_marked : IsTally own boost (set validators k (record old { changed = true }))
    tally_marked = record {
      exact = λ number in_own.
          let s : counted_at (at number) (boost ∷ set validators k (record old { changed = true })) + cond (eqb old.node number) old.balance 0 ≡ counted_at (at number) (boost ∷ validators) + cond (eqb old.node number) old.balance 0 = counted_swap (at number) (boost ∷ validators) (suc k) (record old { changed = true }) old (omega arith) is in
          let x : get_or own number 0 ≡ counted_at (at number) (boost ∷ validators) = tally.exact number in_own in
          omega arith;
      boost_below = tally.boost_below;
      below = All-set (IsBelow (length own)) validators k (record old { changed = true }) old_below tally.below;
      boost_fits = tally.boost_fits;
      fits = All-set Fits validators k (record old { changed = true }) old_fits tally.fits;
      few = omega (arith, length-set validators k (record old { changed = true }), tally.few);
    }

    pub old_counted : old.balance ≤ get_or own old.node 0
    old_counted =
        let one : cond (eqb old.node old.node) old.balance 0 ≤ counted_at (at old.node) (boost ∷ validators) = counted_old (at old.node) (boost ∷ validators) (suc k) old (omega arith) is in
        let c : cond (eqb old.node old.node) old.balance 0 ≡ old.balance = ap (λ b. cond b old.balance 0) (eq-eqb old.node old.node refl) in
        let x : get_or own old.node 0 ≡ counted_at (at old.node) (boost ∷ validators) = tally.exact old.node old_below in
        omega arith

    module _ (less : ℕ) (less_is : less + old.balance ≡ get_or own old.node 0) (new : Counted) (below : new.node < length own) (fits : new.balance < 2 ^ 64) where
      abbrev without : List ℕ
      without = set own old.node less

      same_length : length without ≡ length own
      same_length = length-set own old.node less

      pub count_fits : get_or without new.node 0 + new.balance < 2 ^ 128
      count_fits =
          let l : get_or without new.node 0 + cond (eqb old.node new.node) old.balance 0 ≡ get_or own new.node 0 = less_at own old.node new.node old_below less old.balance less_is in
          let t : get_or own new.node 0 < 2 ^ 112 + 2 ^ 104 = total new.node below in
          omega arith

      pub tally_counted : IsTally (set without new.node (get_or without new.node 0 + new.balance)) boost (set validators k new)
      tally_counted =
          let len : length (set without new.node (get_or without new.node 0 + new.balance)) ≡ length own = length-set without new.node (get_or without new.node 0 + new.balance) ∙ same_length in
          record {
            exact = λ number in_new.
                let in_own : number < length own = omega arith in
                let same : length without ≡ length own = same_length in
                let s : counted_at (at number) (boost ∷ set validators k new) + cond (eqb old.node number) old.balance 0 ≡ counted_at (at number) (boost ∷ validators) + cond (eqb new.node number) new.balance 0 = counted_swap (at number) (boost ∷ validators) (suc k) new old (omega arith) is in
                let l : get_or without number 0 + cond (eqb old.node number) old.balance 0 ≡ get_or own number 0 = less_at own old.node number old_below less old.balance less_is in
                let m : get_or (set without new.node (get_or without new.node 0 + new.balance)) number 0 ≡ get_or without number 0 + cond (eqb new.node number) new.balance 0 = more_at without new.node number (omega arith) new.balance in
                let x : get_or own number 0 ≡ counted_at (at number) (boost ∷ validators) = tally.exact number in_own in
                omega arith;
            boost_below = subst (λ n. boost.node < n) (sym len) tally.boost_below;
            below = All-set (IsBelow (length (set without new.node (get_or without new.node 0 + new.balance)))) validators k new (subst (λ n. new.node < n) (sym len) below) (subst (λ n. All (IsBelow n) validators) (sym len) tally.below);
            boost_fits = tally.boost_fits;
            fits = All-set Fits validators k new fits tally.fits;
            few = omega (arith, length-set validators k new, tally.few);
          }

      pub tally_counted_as : (own₁ own₂ : List ℕ) (amount : ℕ) → amount ≡ new.balance → own₁ ≡ without → own₂ ≡ set own₁ new.node (get_or own₁ new.node 0 + amount) → IsTally own₂ boost (set validators k new)
      tally_counted_as own₁ own₂ amount a e₁ e₂ =
          subst (λ (o : List ℕ). IsTally o boost (set validators k new))
          (sym (e₂ ∙ ap (λ o. set o new.node (get_or o new.node 0 + amount)) e₁ ∙ ap (λ n. set without new.node (get_or without new.node 0 + n)) a)) tally_counted

  pub boost_counted : boost.balance ≤ get_or own boost.node 0
  boost_counted =
      let one : cond (eqb boost.node boost.node) boost.balance 0 ≤ counted_at (at boost.node) (boost ∷ validators) = counted_one (at boost.node) (boost ∷ validators) 0 nothing (omega arith) in
      let c : cond (eqb boost.node boost.node) boost.balance 0 ≡ boost.balance = ap (λ b. cond b boost.balance 0) (eq-eqb boost.node boost.node refl) in
      let x : get_or own boost.node 0 ≡ counted_at (at boost.node) (boost ∷ validators) = tally.exact boost.node tally.boost_below in
      omega arith

  module _ (less : ℕ) (less_is : less + boost.balance ≡ get_or own boost.node 0) (new : Counted) (below : new.node < length own) (fits : new.balance < 2 ^ 112) where
    abbrev without_boost : List ℕ
    without_boost = set own boost.node less

    pub boost_fits : get_or without_boost new.node 0 + new.balance < 2 ^ 128
    boost_fits =
        let l : get_or without_boost new.node 0 + cond (eqb boost.node new.node) boost.balance 0 ≡ get_or own new.node 0 = less_at own boost.node new.node tally.boost_below less boost.balance less_is in
        let t : get_or own new.node 0 < 2 ^ 112 + 2 ^ 104 = total new.node below in
        omega arith

    pub tally_boosted : IsTally (set without_boost new.node (get_or without_boost new.node 0 + new.balance)) new validators
    tally_boosted =
        let same : length without_boost ≡ length own = length-set own boost.node less in
        let len : length (set without_boost new.node (get_or without_boost new.node 0 + new.balance)) ≡ length own = length-set without_boost new.node (get_or without_boost new.node 0 + new.balance) ∙ same in
        record {
          exact = λ number in_new.
              let in_own : number < length own = omega arith in
              let s : counted_at (at number) (new ∷ validators) + cond (eqb boost.node number) boost.balance 0 ≡ counted_at (at number) (boost ∷ validators) + cond (eqb new.node number) new.balance 0 = counted_set (at number) (boost ∷ validators) 0 new nothing (omega arith) in
              let l : get_or without_boost number 0 + cond (eqb boost.node number) boost.balance 0 ≡ get_or own number 0 = less_at own boost.node number tally.boost_below less boost.balance less_is in
              let m : get_or (set without_boost new.node (get_or without_boost new.node 0 + new.balance)) number 0 ≡ get_or without_boost number 0 + cond (eqb new.node number) new.balance 0 = more_at without_boost new.node number (omega arith) new.balance in
              let x : get_or own number 0 ≡ counted_at (at number) (boost ∷ validators) = tally.exact number in_own in
              omega arith;
          boost_below = subst (λ n. new.node < n) (sym len) below;
          below = subst (λ n. All (IsBelow n) validators) (sym len) tally.below;
          boost_fits = fits;
          fits = tally.fits;
          few = tally.few;
        }

    pub tally_boosted_as : (own₁ own₂ : List ℕ) → own₁ ≡ without_boost → own₂ ≡ set own₁ new.node (get_or own₁ new.node 0 + new.balance) → IsTally own₂ new validators
    tally_boosted_as own₁ own₂ e₁ e₂ = subst (λ (o : List ℕ). IsTally o new validators) (sym (e₂ ∙ ap (λ o. set o new.node (get_or o new.node 0 + new.balance)) e₁)) tally_boosted

pub counted_read : (validators : List Counted) (k : ℕ) (c : Counted) → k < length validators → c ≡ get_or validators k c → c ≡ get_or validators k nothing
counted_read [] k c h e = absurd (omega arith)
counted_read (x ∷ validators) zero c h e = e
counted_read (x ∷ validators) (suc k) c h e = counted_read validators k c (omega arith) e

pub ruleset reading = (counted_read)

pub ruleset bounding = (all_below, all_low)

pub ruleset beginning = (begun)

pub ruleset adding = (tally_node, tally_validator)

pub ruleset marking = (tally_marked)

pub ruleset counting = (tally_counted, count_fits, old_counted, tally_boosted, boost_counted, boost_fits)
