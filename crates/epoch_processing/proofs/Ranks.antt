-- The ranks of those who wait, the bar, and the pass that lets in.
use Rattle.std.proofs.Common.{◌≡◌, ◌⊎◌, ◌∙◌, ℕ, zero, suc, ◌+◌, ◌<◌, ◌≤◌, Bool, true, false, cond, not, ◌&&◌, ◌||◌, ◌==◌, nat_lt, leb, if◌then◌else◌, List, [], ◌∷◌, ◌++◌, length, map, take, drop, get_or, zero-add, Option, Some, None, slice_get, slice_set, refl, sym, ap, ap₂, subst, inl, inr, arith, append_assoc, Less, Equal, Greater}
use Rattle.std.specs.Prelude.{filter, count_by}
use Rattle.std.specs.List.{enumerate_from, list_any}
use Rattle.std.specs.List.Sorted.{IsSorted}
use Rattle.std.specs.Ordering.{ordering_then, is_lt}
use Rattle.std.proofs.lemmas.Bool.{eq-eqb, ne_eqb, ltb-true, ltb-false, leb-true, leb-false, lt-ltb, le-ltb, le-leb, lt-leb, cases_Bool, cases_order, and_right, or_from, false≢true}
use Rattle.std.proofs.lemmas.List.{append-nil, drop_all, take_all}
use Rattle.std.proofs.lemmas.List.Sums.{sum_by-cons}
use Rattle.std.proofs.lemmas.List.Sorted.{sum_by-IsPermutation, length_permutation}
use Rattle.bc_preset.specs.declared.configuration.ConfigValues.{ConfigValues}
use Rattle.beacon_types.specs.declared.validator.Validator.{Validator}
use Rattle.spec_state.specs.declared.plain.PlainState.{PlainState}
use Rattle.spec_state.specs.Predicates.{is_eligible_for_activation}
use Rattle.spec_state.specs.Accessors.{get_validator_churn_limit}
use Rattle.spec_epochs.specs.ProcessRegistryUpdates.{activation_queue, comes_before, is_dequeued, with_activations}
use Rattle.epoch_processing.proofs.Updates.{let_in}
use Rattle.epoch_processing.proofs.Quiet.{nobody_let_in}
use Rattle.epoch_processing.specs.inside.Ranks.{rank_of, ranks_from, before, rank_cmp, IsQueue, before_bar, is_let_in, IsBar, activated, let_in_from}

abbrev validator_or : Validator → Option Validator → Validator
validator_or v None = v
validator_or v (Some w) = w

-- ---- ranks

before_lower : (a b : ℕ × ℕ) → a.0 < b.0 → before a b ≡ true
unfolding before
before_lower a b less = ap (λ (x : Bool). x || ((a.0 == b.0) && nat_lt a.1 b.1)) (lt-ltb a.0 b.0 less)

before_higher : (a b : ℕ × ℕ) → b.0 < a.0 → before a b ≡ false
unfolding before
before_higher a b less = ap₂ (λ (x y : Bool). x || (y && nat_lt a.1 b.1)) (le-ltb a.0 b.0 (omega (arith, less))) (ne_eqb a.0 b.0 (λ same. absurd (omega (arith, less, same))))

before_level : (a b : ℕ × ℕ) → a.0 ≡ b.0 → before a b ≡ nat_lt a.1 b.1
unfolding before
before_level a b same = ap₂ (λ (x y : Bool). x || (y && nat_lt a.1 b.1)) (le-ltb a.0 b.0 (omega (arith, same))) (eq-eqb a.0 b.0 same)

-- what it means, either way
means_before : (a b : ℕ × ℕ) → before a b ≡ true → (a.0 < b.0) ⊎ ((a.0 ≡ b.0) × (a.1 < b.1))
means_before a b is = elim (cases_order a.0 b.0) [
  | inl same ↦ inr (same, ltb-true a.1 b.1 (sym (before_level a b same) ∙ is))
  | inr (inl less) ↦ inl less
  | inr (inr more) ↦ absurd (false≢true (sym (before_higher a b more) ∙ is))
]

means_not_before : (a b : ℕ × ℕ) → before a b ≡ false → (b.0 < a.0) ⊎ ((a.0 ≡ b.0) × (b.1 ≤ a.1))
means_not_before a b is = elim (cases_order a.0 b.0) [
  | inl same ↦ inr (same, ltb-false a.1 b.1 (sym (before_level a b same) ∙ is))
  | inr (inl less) ↦ absurd (false≢true (sym is ∙ before_lower a b less))
  | inr (inr more) ↦ inl more
]

-- one that comes before another comes before all that the other doesn't come behind
before_all : (x s t : ℕ × ℕ) → before x s ≡ true → before t s ≡ false → before x t ≡ true
before_all x s t first next = elim (means_before x s first) [
  | inl less ↦ elim (means_not_before t s next) [
    | inl more ↦ before_lower x t (omega (arith, less, more))
    | inr same ↦ before_lower x t (omega (arith, less, same.0))
  ]
  | inr level ↦ elim (means_not_before t s next) [
    | inl more ↦ before_lower x t (omega (arith, level.0, more))
    | inr same ↦ before_level x t (level.0 ∙ sym same.0) ∙ lt-ltb x.1 t.1 (omega (arith, level.1, same.1))
  ]
]

-- of two ranks of two validators one comes before the other
one_before : (a b : ℕ × ℕ) → (b.1 ≡ a.1 → ⊥) → not (before a b) ≡ before b a
one_before a b differs = elim (cases_order a.0 b.0) [
  | inl same ↦ elim (cases_order a.1 b.1) [
    | inl e ↦ absurd (differs (sym e))
    | inr (inl less) ↦ ap not (before_level a b same ∙ lt-ltb a.1 b.1 less) ∙ sym (before_level b a (sym same) ∙ le-ltb b.1 a.1 (omega (arith, less)))
    | inr (inr more) ↦ ap not (before_level a b same ∙ le-ltb a.1 b.1 (omega (arith, more))) ∙ sym (before_level b a (sym same) ∙ lt-ltb b.1 a.1 more)
  ]
  | inr (inl less) ↦ ap not (before_lower a b less) ∙ sym (before_higher b a less)
  | inr (inr more) ↦ ap not (before_higher a b more) ∙ sym (before_lower b a more)
]

not_itself : (a : ℕ × ℕ) → before a a ≡ false
not_itself a = before_level a a refl ∙ le-ltb a.1 a.1 (omega arith)

less_by : (p q r t : Bool) → is_lt (ordering_then (cond p Less (cond q Equal Greater)) (cond r Less (cond t Equal Greater))) ≡ p || (q && r)
less_by true q r t = refl
less_by false true true t = refl
less_by false true false true = refl
less_by false true false false = refl
less_by false false r t = refl

less_is : (a b : ℕ × ℕ) → is_lt (rank_cmp a b) ≡ before a b
unfolding before
less_is a b = less_by (nat_lt a.0 b.0) (a.0 == b.0) (nat_lt a.1 b.1) (a.1 == b.1)

-- ---- sorted ranks

abbrev Up : List (ℕ × ℕ) → Type 0
Up ranks = IsSorted rank_cmp ranks

up_rest : (s : ℕ × ℕ) (ranks : List (ℕ × ℕ)) → Up (s ∷ ranks) → Up ranks
up_rest s ranks up k d low high =
    let place : suc k + 1 ≡ suc (k + 1) = omega arith in
    subst (λ (n : ℕ). is_lt (rank_cmp (get_or (s ∷ ranks) n d) (get_or (s ∷ ranks) (suc k) d)) ≡ false) place (up (suc k) d (omega arith) (omega (arith, high)))

up_next : (s t : ℕ × ℕ) (ranks : List (ℕ × ℕ)) → Up (s ∷ t ∷ ranks) → before t s ≡ false
up_next s t ranks up = sym (less_is t s) ∙ up 0 s (omega arith) (omega arith)

-- how many ranks a rank doesn't come before
abbrev not_behind : ℕ × ℕ → List (ℕ × ℕ) → ℕ
not_behind x ranks = count_by (λ r. not (before x r)) ranks

counted : (x s : ℕ × ℕ) (ranks : List (ℕ × ℕ)) → not_behind x (s ∷ ranks) ≡ cond (not (before x s)) 1 0 + not_behind x ranks
counted x s ranks = sum_by-cons (λ r. cond (not (before x r)) 1 0) s ranks

-- before the first it comes before all
none_counted : (x s : ℕ × ℕ) (ranks : List (ℕ × ℕ)) → Up (s ∷ ranks) → before x s ≡ true → not_behind x (s ∷ ranks) ≡ 0
none_counted x s [] up first = counted x s [] ∙ ap (λ (b : Bool). cond (not b) 1 0 + not_behind x []) first
none_counted x s (t ∷ ranks) up first =
    counted x s (t ∷ ranks) ∙ ap₂ (λ (b : Bool) (n : ℕ). cond (not b) 1 0 + n) first (none_counted x t ranks (up_rest s (t ∷ ranks) up) (before_all x s t first (up_next s t ranks up)))

before_any : (x s : ℕ × ℕ) (ranks : List (ℕ × ℕ)) (n : ℕ) → Up (s ∷ ranks) → before x s ≡ true → before_bar (slice_get (s ∷ ranks) n) x ≡ true
unfolding before_bar
before_any x s ranks zero up first = first
before_any x s [] (suc n) up first = refl
before_any x s (t ∷ ranks) (suc n) up first = before_any x t ranks n (up_rest s (t ∷ ranks) up) (before_all x s t first (up_next s t ranks up))

leb_next : (n limit : ℕ) → leb (1 + n) (suc limit) ≡ leb n limit
leb_next n limit = elim (cases_Bool (leb n limit)) [
  | inl low ↦ le-leb (1 + n) (suc limit) (let below = leb-true n limit low in omega (arith, below)) ∙ sym low
  | inr high ↦ lt-leb (1 + n) (suc limit) (let above = leb-false n limit high in omega (arith, above)) ∙ sym high
]

one_more : (x s : ℕ × ℕ) (ranks : List (ℕ × ℕ)) → before x s ≡ false → not_behind x (s ∷ ranks) ≡ 1 + not_behind x ranks
one_more x s ranks behind = counted x s ranks ∙ ap (λ (b : Bool). cond (not b) 1 0 + not_behind x ranks) behind

-- where it comes before the first it comes before any
bar_first : (x s : ℕ × ℕ) (ranks : List (ℕ × ℕ)) (limit : ℕ) → Up (s ∷ ranks) → before x s ≡ true → leb (not_behind x (s ∷ ranks)) limit ≡ before_bar (slice_get (s ∷ ranks) limit) x
bar_first x s ranks limit up first =
    ap (λ (n : ℕ). leb n limit) (none_counted x s ranks up first) ∙ (le-leb 0 limit (omega arith) ∙ sym (before_any x s ranks limit up first))

-- the bar stands behind as many as the limit
bar_counts : (x : ℕ × ℕ) (ranks : List (ℕ × ℕ)) (limit : ℕ) → Up ranks → leb (not_behind x ranks) limit ≡ before_bar (slice_get ranks limit) x
unfolding before_bar
bar_counts x [] limit up = le-leb 0 limit (omega arith)
bar_counts x (s ∷ ranks) zero up = elim (cases_Bool (before x s)) [
  | inl first ↦ bar_first x s ranks 0 up first
  | inr behind ↦ ap (λ (n : ℕ). leb n 0) (one_more x s ranks behind) ∙ (lt-leb (1 + not_behind x ranks) 0 (omega arith) ∙ sym behind)
]
bar_counts x (s ∷ ranks) (suc limit) up = elim (cases_Bool (before x s)) [
  | inl first ↦ bar_first x s ranks (suc limit) up first
  | inr behind ↦ ap (λ (n : ℕ). leb n (suc limit)) (one_more x s ranks behind) ∙ (leb_next (not_behind x ranks) limit ∙ bar_counts x ranks limit (up_rest s ranks up))
]

-- ---- those who wait, and their ranks

abbrev Entry : Type 0
Entry = ℕ × Validator

module _ (passes : Entry → Bool) where
  abbrev kept : ℕ → List Validator → List Entry
  kept index vs = filter passes (enumerate_from index vs)

  kept_opens : (index : ℕ) (v : Validator) (vs : List Validator) → kept index (v ∷ vs) ≡ cond (passes (index, v)) ((index, v) ∷ kept (index + 1) vs) (kept (index + 1) vs)
  kept_opens index v vs = refl

  counts_one : (test : Entry → Bool) (keeps : Bool) (entry : Entry) (entries : List Entry) → count_by test (cond keeps (entry ∷ entries) entries) ≡ cond keeps (cond (test entry) 1 0) 0 + count_by test entries
  counts_one test true entry entries = sum_by-cons (λ e. cond (test e) 1 0) entry entries
  counts_one test false entry entries = sym (zero-add (count_by test entries))

  count_opens : (test : Entry → Bool) (index : ℕ) (v : Validator) (vs : List Validator)
      → count_by test (kept index (v ∷ vs)) ≡ cond (passes (index, v)) (cond (test (index, v)) 1 0) 0 + count_by test (kept (index + 1) vs)
  count_opens test index v vs = counts_one test (passes (index, v)) (index, v) (kept (index + 1) vs)

  -- two tests that agree from an index on
  agree_from : (one other : Entry → Bool) (vs : List Validator) (index : ℕ) → ((i : ℕ) (v : Validator) → index ≤ i → one (i, v) ≡ other (i, v)) → count_by one (kept index vs) ≡ count_by other (kept index vs)
  agree_from one other [] index same = refl
  agree_from one other (v ∷ vs) index same =
      count_opens one index v vs
      ∙ (ap₂ (λ (b : Bool) (n : ℕ). cond (passes (index, v)) (cond b 1 0) 0 + n) (same index v (omega arith)) (agree_from one other vs (index + 1) (λ i w above. same i w (omega (arith, above))))
      ∙ sym (count_opens other index v vs))

  -- two tests that agree but at one entry, which passes the first
  agree_but_one : (one other : Entry → Bool) (vs : List Validator) (index k at : ℕ) (v : Validator) → at ≡ index + k → slice_get vs k ≡ Some v → passes (at, v) ≡ true → one (at, v) ≡ true → other (at, v) ≡ false
      → ((i : ℕ) (w : Validator) → (i ≡ at → ⊥) → one (i, w) ≡ other (i, w)) → count_by one (kept index vs) ≡ count_by other (kept index vs) + 1
  agree_but_one one other [] index k at v place here passes_here first second same = absurd cc
  agree_but_one one other (w ∷ vs) index zero at v place here passes_here first second same =
      let head : index ≡ at = omega (arith, place) in
      let whose : w ≡ v = ap (validator_or w) here in
      let keeps : passes (index, w) ≡ true = ap₂ (λ (i : ℕ) (u : Validator). passes (i, u)) head whose ∙ passes_here in
      let yes : one (index, w) ≡ true = ap₂ (λ (i : ℕ) (u : Validator). one (i, u)) head whose ∙ first in
      let nope : other (index, w) ≡ false = ap₂ (λ (i : ℕ) (u : Validator). other (i, u)) head whose ∙ second in
      let counted_one : count_by one (kept index (w ∷ vs)) ≡ 1 + count_by one (kept (index + 1) vs) = count_opens one index w vs ∙ ap₂ (λ (b c : Bool). cond b (cond c 1 0) 0 + count_by one (kept (index + 1) vs)) keeps yes in
      let counted_none : count_by other (kept index (w ∷ vs)) ≡ 0 + count_by other (kept (index + 1) vs) = count_opens other index w vs ∙ ap₂ (λ (b c : Bool). cond b (cond c 1 0) 0 + count_by other (kept (index + 1) vs)) keeps nope in
      let rest = agree_from one other vs (index + 1) (λ i u above. same i u (λ e. absurd (omega (arith, above, e, head)))) in
      omega (arith, counted_one, counted_none, rest)
  agree_but_one one other (w ∷ vs) index (suc k) at v place here passes_here first second same =
      let step = ap {B = ℕ} (λ (b : Bool). cond (passes (index, w)) (cond b 1 0) 0) (same index w (λ e. absurd (omega (arith, e, place)))) in
      let rest = agree_but_one one other vs (index + 1) k at v (omega (arith, place)) here passes_here first second same in
      omega (arith, count_opens one index w vs, count_opens other index w vs, step, rest)

counted_map : (test : ℕ × ℕ → Bool) (entries : List Entry) → count_by test (map rank_of entries) ≡ count_by (λ e. test (rank_of e)) entries
counted_map test [] = refl
counted_map test (e ∷ entries) =
    sum_by-cons (λ r. cond (test r) 1 0) (rank_of e) (map rank_of entries)
    ∙ (ap (λ (n : ℕ). cond (test (rank_of e)) 1 0 + n) (counted_map test entries) ∙ sym (sum_by-cons (λ f. cond (test (rank_of f)) 1 0) e entries))

comes_before_is : (a b : Entry) → comes_before a b ≡ before (rank_of a) (rank_of b)
unfolding comes_before before rank_of
comes_before_is a b = refl

rank_index : (a : Entry) → (rank_of a).1 ≡ a.0
unfolding rank_of
rank_index a = refl

-- one who waits stands behind as many as come before, and itself
behind_itself : (state : PlainState) (index : ℕ) (v : Validator) → slice_get state.validators index ≡ Some v → is_eligible_for_activation state v ≡ true
    → not_behind (rank_of (index, v)) (ranks_from state 0 state.validators) ≡ count_by (λ other. comes_before other (index, v)) (activation_queue state) + 1
unfolding ranks_from activation_queue
behind_itself state index v here waits =
    counted_map (λ r. not (before (rank_of (index, v)) r)) (filter (λ entry. is_eligible_for_activation state entry.1) (enumerate_from 0 state.validators))
    ∙ agree_but_one (λ entry. is_eligible_for_activation state entry.1)
    (λ e. not (before (rank_of (index, v)) (rank_of e))) (λ other. comes_before other (index, v)) state.validators 0 index index v (omega arith) here waits
    (ap not (not_itself (rank_of (index, v))))
    (comes_before_is (index, v) (index, v) ∙ not_itself (rank_of (index, v)))
    (λ i w differs. one_before (rank_of (index, v)) (rank_of (i, w)) (λ e. differs (sym (rank_index (i, w)) ∙ (e ∙ rank_index (index, v)))) ∙ sym (comes_before_is (i, w) (index, v)))

lt_leb : (n limit : ℕ) → nat_lt n limit ≡ leb (n + 1) limit
lt_leb n limit = elim (cases_Bool (nat_lt n limit)) [
  | inl low ↦ low ∙ sym (le-leb (n + 1) limit (let below = ltb-true n limit low in omega (arith, below)))
  | inr high ↦ high ∙ sym (lt-leb (n + 1) limit (let above = ltb-false n limit high in omega (arith, above)))
]

dequeued_by : (state : PlainState) (config : ConfigValues) (ranks : List (ℕ × ℕ)) (index : ℕ) (v : Validator) → IsQueue state ranks → slice_get state.validators index ≡ Some v → is_eligible_for_activation state v ≡ true
    → nat_lt (count_by (λ other. comes_before other (index, v)) (activation_queue state)) (get_validator_churn_limit state config) ≡ before_bar (slice_get ranks (get_validator_churn_limit state config)) (rank_of (index, v))
dequeued_by state config ranks index v queue here waits =
    let limit : ℕ = get_validator_churn_limit state config in
    let x : ℕ × ℕ = rank_of (index, v) in
    lt_leb _ limit
    ∙ (ap (λ (n : ℕ). leb n limit) (sym (behind_itself state index v here waits) ∙ sym (sum_by-IsPermutation (λ r. cond (not (before x r)) 1 0) (ranks_from state 0 state.validators) ranks queue.0))
    ∙ bar_counts x ranks limit queue.1)

and_both : (a b c : Bool) → (a ≡ true → b ≡ c) → a && b ≡ a && c
and_both true b c same = same refl
and_both false b c same = refl

pub bar_of : (state : PlainState) (config : ConfigValues) (ranks : List (ℕ × ℕ)) → IsQueue state ranks → IsBar state config (slice_get ranks (get_validator_churn_limit state config))
unfolding IsBar is_dequeued is_let_in
bar_of state config ranks queue index v here = and_both (is_eligible_for_activation state v) _ _ (dequeued_by state config ranks index v queue here)

-- ---- the ranks, one validator at a time

next : (i : ℕ) → suc i ≡ i + 1
next i = omega arith

ranks_opened : (keeps : Bool) (entry : Entry) (entries : List Entry) → map rank_of (cond keeps (entry ∷ entries) entries) ≡ cond keeps (rank_of entry ∷ map rank_of entries) (map rank_of entries)
ranks_opened true entry entries = refl
ranks_opened false entry entries = refl

either_way : {A : Type 0} (keeps : Bool) (x : A) (more : List A) → cond keeps (x ∷ more) more ≡ cond keeps (x ∷ []) [] ++ more
either_way true x more = refl
either_way false x more = refl

module _ (state : PlainState) (index : ℕ) (v : Validator) where
  opens : (left : List Validator) → ranks_from state index (v ∷ left) ≡ cond (is_eligible_for_activation state v) ((v.activation_eligibility_epoch, index) ∷ ranks_from state (index + 1) left) (ranks_from state (index + 1) left)
  unfolding ranks_from rank_of
  opens left = ranks_opened (is_eligible_for_activation state v) (index, v) (filter (λ entry. is_eligible_for_activation state entry.1) (enumerate_from (index + 1) left))

  alone : (b : Bool) → is_eligible_for_activation state v ≡ b → ranks_from state index (v ∷ []) ≡ cond b ((v.activation_eligibility_epoch, index) ∷ []) []
  unfolding ranks_from
  alone b is = opens [] ∙ ap (λ (c : Bool). cond c ((v.activation_eligibility_epoch, index) ∷ []) []) is

  pub rank_alone : (ranks : List (ℕ × ℕ)) → is_eligible_for_activation state v ≡ true → ranks ++ (v.activation_eligibility_epoch, index) ∷ [] ≡ ranks ++ ranks_from state index (v ∷ [])
  rank_alone ranks waits = ap (λ (more : List (ℕ × ℕ)). ranks ++ more) (sym (alone true waits))

  pub no_rank : (ranks : List (ℕ × ℕ)) → is_eligible_for_activation state v ≡ false → ranks ≡ ranks ++ ranks_from state index (v ∷ [])
  no_rank ranks not_waiting = sym (ap (λ (more : List (ℕ × ℕ)). ranks ++ more) (alone false not_waiting) ∙ append-nil ranks)

  first_apart : (left : List Validator) → ranks_from state index (v ∷ left) ≡ ranks_from state index (v ∷ []) ++ ranks_from state (index + 1) left
  first_apart left =
      opens left
      ∙ either_way (is_eligible_for_activation state v) (v.activation_eligibility_epoch, index) (ranks_from state (index + 1) left)
      ∙ ap (λ (ranks : List (ℕ × ℕ)). ranks ++ ranks_from state (index + 1) left) (sym (alone (is_eligible_for_activation state v) refl))

  pub rank_next : (left : List Validator) (ranks more : List (ℕ × ℕ)) → more ≡ ranks ++ ranks_from state index (v ∷ []) → more ++ ranks_from state (index + 1) left ≡ ranks ++ ranks_from state index (v ∷ left)
  rank_next left ranks more is =
      ap (λ (all : List (ℕ × ℕ)). all ++ ranks_from state (index + 1) left) is
      ∙ (append_assoc ranks (ranks_from state index (v ∷ [])) (ranks_from state (index + 1) left)
      ∙ ap (λ (all : List (ℕ × ℕ)). ranks ++ all) (sym (first_apart left)))

pub ranks_end : (state : PlainState) (ranks : List (ℕ × ℕ)) (index : ℕ) → ranks ++ ranks_from state index [] ≡ ranks
unfolding ranks_from
ranks_end state ranks index = append-nil ranks

-- ---- letting in, one validator at a time

module _ (change : Entry → Validator) where
  step_in : (vs : List Validator) (i m : ℕ) (old new : Validator) → slice_get vs i ≡ Some old → change (m, old) ≡ new
      → take (suc i) (slice_set vs i new) ++ map change (enumerate_from (m + 1) (drop (suc i) (slice_set vs i new))) ≡ take i vs ++ map change (enumerate_from m (drop i vs))
  step_in [] i m old new here is = absurd cc
  step_in (v ∷ vs) zero m old new here is =
      let whose : change (m, v) ≡ new = ap (λ (w : Validator). change (m, w)) (ap (validator_or v) here) ∙ is in
      ap (λ (w : Validator). w ∷ map change (enumerate_from (m + 1) vs)) (sym whose)
  step_in (v ∷ vs) (suc i) m old new here is = ap (λ (ws : List Validator). v ∷ ws) (step_in vs i m old new here is)

set_same : (vs : List Validator) (i : ℕ) (v : Validator) → slice_get vs i ≡ Some v → slice_set vs i v ≡ vs
set_same [] i v here = refl
set_same (w ∷ vs) zero v here = ap (λ (u : Validator). u ∷ vs) (sym (ap (validator_or w) here))
set_same (w ∷ vs) (suc i) v here = ap (λ (us : List Validator). w ∷ us) (set_same vs i v here)

module _ (state : PlainState) (bar : Option (ℕ × ℕ)) (epoch : ℕ) where
  set_in : (index : ℕ) (old new : Validator) → slice_get state.validators index ≡ Some old → activated state bar epoch (index, old) ≡ new
      → let_in_from (record state { validators = slice_set state.validators index new }) bar epoch (index + 1) ≡ let_in_from state bar epoch index
  unfolding let_in_from activated is_let_in is_eligible_for_activation
  set_in index old new here is =
      ap (λ (n : ℕ). record state { validators = take n (slice_set state.validators index new) ++ map (activated state bar epoch) (enumerate_from (index + 1) (drop n (slice_set state.validators index new))) }) (sym (next index))
      ∙ ap (λ (vs : List Validator). record state { validators = vs }) (step_in (activated state bar epoch) state.validators index index old new here is)

  pub let_in_here : (index : ℕ) (v : Validator) → slice_get state.validators index ≡ Some v → is_eligible_for_activation state v ≡ true → before_bar bar (v.activation_eligibility_epoch, index) ≡ true
      → let_in_from (record state { validators = slice_set state.validators index (record v { activation_epoch = epoch }) }) bar epoch (index + 1) ≡ let_in_from state bar epoch index
  unfolding activated is_let_in rank_of
  let_in_here index v here waits first =
      set_in index v (record v { activation_epoch = epoch }) here (ap₂ (λ (a b : Bool). if a && b then record v { activation_epoch = epoch } else v) waits first)

  stays_out : (index : ℕ) (v : Validator) → slice_get state.validators index ≡ Some v → activated state bar epoch (index, v) ≡ v → let_in_from state bar epoch (index + 1) ≡ let_in_from state bar epoch index
  stays_out index v here is =
      ap (λ (vs : List Validator). let_in_from (record state { validators = vs }) bar epoch (index + 1)) (sym (set_same state.validators index v here)) ∙ set_in index v v here is

  pub not_waiting : (index : ℕ) (v : Validator) → slice_get state.validators index ≡ Some v → is_eligible_for_activation state v ≡ false → let_in_from state bar epoch (index + 1) ≡ let_in_from state bar epoch index
  unfolding activated is_let_in
  not_waiting index v here waits =
      stays_out index v here (ap (λ (a : Bool). if a && before_bar bar (rank_of (index, v)) then record v { activation_epoch = epoch } else v) waits)

  pub not_before_bar : (index : ℕ) (v : Validator) → slice_get state.validators index ≡ Some v → before_bar bar (v.activation_eligibility_epoch, index) ≡ false → let_in_from state bar epoch (index + 1) ≡ let_in_from state bar epoch index
  unfolding activated is_let_in rank_of
  not_before_bar index v here behind =
      stays_out index v here (ap (λ (a : Bool). if a then record v { activation_epoch = epoch } else v) (and_right (is_eligible_for_activation state v) (before_bar bar (v.activation_eligibility_epoch, index)) behind))

  pub let_in_end : (index : ℕ) → length state.validators ≤ index → let_in_from state bar epoch index ≡ state
  unfolding let_in_from
  let_in_end index over =
      ap₂ (λ (first rest : List Validator). record state { validators = first ++ map (activated state bar epoch) (enumerate_from index rest) }) (take_all index state.validators over) (drop_all index state.validators over)
      ∙ ap (λ (vs : List Validator). record state { validators = vs }) (append-nil state.validators)

map_same : (one other : Entry → Validator) (vs : List Validator) (index : ℕ) → ((k : ℕ) (v : Validator) → slice_get vs k ≡ Some v → one (index + k, v) ≡ other (index + k, v)) → map one (enumerate_from index vs) ≡ map other (enumerate_from index vs)
map_same one other [] index same = refl
map_same one other (v ∷ vs) index same =
    let place : index ≡ index + 0 = omega arith in
    let here : one (index, v) ≡ other (index, v) = ap (λ (i : ℕ). one (i, v)) place ∙ (same 0 v refl ∙ ap (λ (i : ℕ). other (i, v)) (sym place)) in
    let rest = map_same one other vs (index + 1) (λ k w at. let e : index + 1 + k ≡ index + suc k = omega arith in ap (λ (i : ℕ). one (i, w)) e ∙ (same (suc k) w at ∙ ap (λ (i : ℕ). other (i, w)) (sym e))) in
    ap₂ (λ (w : Validator) (ws : List Validator). w ∷ ws) here rest

-- those that the bar lets in are those that are dequeued
pub all_dequeued : (state : PlainState) (config : ConfigValues) (bar : Option (ℕ × ℕ)) (epoch : ℕ) → IsBar state config bar → let_in_from state bar epoch 0 ≡ record state { validators = with_activations state config epoch }
unfolding let_in_from with_activations activated IsBar
all_dequeued state config bar epoch is =
    ap (λ (vs : List Validator). record state { validators = vs })
    (map_same (activated state bar epoch) (let_in state config epoch) state.validators 0
    (λ k v here. let place : 0 + k ≡ k = zero-add k in
    ap (λ (b : Bool). if b then record v { activation_epoch = epoch } else v)
    (ap (λ (i : ℕ). is_let_in state bar (i, v)) place ∙ (sym (is k v here) ∙ ap (λ (i : ℕ). is_dequeued state config (i, v)) (sym place)))))

-- ---- where nobody waits

without_items : {A : Type 0} (items : List A) → length items ≡ 0 → items ≡ []
without_items [] none = refl
without_items (x ∷ items) none = absurd (omega (arith, none))

nobody_waits : (state : PlainState) (vs : List Validator) (index : ℕ) → ranks_from state index vs ≡ [] → list_any (is_eligible_for_activation state) vs ≡ false
nobody_waits state [] index none = refl
nobody_waits state (v ∷ vs) index none =
    let rank : ℕ × ℕ = (v.activation_eligibility_epoch, index) in
    let others = ranks_from state (index + 1) vs in
    elim (cases_Bool (is_eligible_for_activation state v)) [
      | inl waits ↦
          let some : rank ∷ others ≡ [] = sym (opens state index v vs ∙ ap (λ (b : Bool). cond b (rank ∷ others) others) waits) ∙ none in
          absurd cc
      | inr waits ↦
          let rest : others ≡ [] = sym (opens state index v vs ∙ ap (λ (b : Bool). cond b (rank ∷ others) others) waits) ∙ none in
          or_from (is_eligible_for_activation state v) (list_any (is_eligible_for_activation state) vs) waits (nobody_waits state vs (index + 1) rest)
    ]

pub none_dequeued : (state : PlainState) (config : ConfigValues) (ranks : List (ℕ × ℕ)) (epoch : ℕ) → IsQueue state ranks → length ranks ≡ 0 → state ≡ record state { validators = with_activations state config epoch }
none_dequeued state config ranks epoch queue none =
    let before = without_items (ranks_from state 0 state.validators) (sym (length_permutation (ranks_from state 0 state.validators) ranks queue.0) ∙ none) in
    nobody_let_in state config epoch (nobody_waits state state.validators 0 before)
