-- What is noted of the active validators stays true where one changes who counts as before.
use Rattle.std.proofs.Common.{◌≡◌, ℕ, zero, suc, Bool, true, false, cond, List, [], ◌∷◌, ◌++◌, filter, Some, slice_get, slice_set, refl, sym, ap, ◌∙◌}
use Rattle.bc_words.specs.Outcome.{Outcome, done, refused, limited, bind, checked_add, checked_sum_from, checked_sum_by}
use Rattle.beacon_types.specs.declared.validator.Validator.{Validator}
use Rattle.spec_state.specs.Predicates.{is_active_validator}
use Rattle.spec_state.specs.Accessors.{indices_from}
use Rattle.active_sets.specs.inside.Active.{active_in, balance_in}

module _ (test : Validator → Bool) where
  -- ---- one takes the place of another

  list_same_at : (start : ℕ) (validators : List Validator) (i : ℕ) (before after : Validator) → Some before ≡ slice_get validators i → test before ≡ test after
      → indices_from test start (slice_set validators i after) ≡ indices_from test start validators
  unfolding indices_from
  list_same_at start [] i before after is same = absurd cc
  list_same_at start (v ∷ validators) zero before after is same =
      let here : before ≡ v = cc in
      ap (λ b. cond b (start ∷ indices_from test (suc start) validators) (indices_from test (suc start) validators)) (sym same ∙ ap test here)
  list_same_at start (v ∷ validators) (suc i) before after is same =
      ap (λ left. cond (test v) (start ∷ left) left) (list_same_at (suc start) validators i before after is same)

  bound_same : (o : Outcome ℕ) (f g : ℕ → Outcome ℕ) → ((sum : ℕ) → f sum ≡ g sum) → bind o f ≡ bind o g
  bound_same (done sum) f g same = same sum
  bound_same (refused r) f g same = refl
  bound_same (limited l) f g same = refl

  abbrev sum_from : ℕ → List Validator → Outcome ℕ
  sum_from sum validators = checked_sum_from (λ v. v.effective_balance) sum (filter test validators)

  -- the first counts the same, and the others are the same
  first_same : (b : Bool) (sum : ℕ) (before after : Validator) (left : List Validator) → before.effective_balance ≡ after.effective_balance
      → checked_sum_from (λ v. v.effective_balance) sum (cond b (after ∷ left) left) ≡ checked_sum_from (λ v. v.effective_balance) sum (cond b (before ∷ left) left)
  unfolding checked_sum_from
  first_same true sum before after left same = ap (λ n. bind (checked_add sum n) (λ more. checked_sum_from (λ v. v.effective_balance) more left)) (sym same)
  first_same false sum before after left same = refl

  -- the first is the same, and the others count the same
  others_same : (b : Bool) (sum : ℕ) (v : Validator) (before after : List Validator) → ((more : ℕ) → sum_from more after ≡ sum_from more before)
      → checked_sum_from (λ w. w.effective_balance) sum (cond b (v ∷ filter test after) (filter test after)) ≡ checked_sum_from (λ w. w.effective_balance) sum (cond b (v ∷ filter test before) (filter test before))
  unfolding checked_sum_from
  others_same true sum v before after same = bound_same (checked_add sum v.effective_balance) (λ more. sum_from more after) (λ more. sum_from more before) same
  others_same false sum v before after same = same sum

  sum_same_at : (sum : ℕ) (validators : List Validator) (i : ℕ) (before after : Validator) → Some before ≡ slice_get validators i → test before ≡ test after
      → before.effective_balance ≡ after.effective_balance → sum_from sum (slice_set validators i after) ≡ sum_from sum validators
  sum_same_at sum [] i before after is same weight = absurd cc
  sum_same_at sum (v ∷ validators) zero before after is same weight =
      let here : before ≡ v = cc in
      ap (λ b. checked_sum_from (λ w. w.effective_balance) sum (cond b (after ∷ filter test validators) (filter test validators))) (sym same ∙ ap test here)
      ∙ first_same (test v) sum v after (filter test validators) (ap (λ w. w.effective_balance) (sym here) ∙ weight)
  sum_same_at sum (v ∷ validators) (suc i) before after is same weight =
      others_same (test v) sum v validators (slice_set validators i after) (λ more. sum_same_at more validators i before after is same weight)

  -- ---- one who doesn't pass the test is put behind the others

  list_same_behind : (start : ℕ) (validators : List Validator) (after : Validator) → test after ≡ false
      → indices_from test start (validators ++ after ∷ []) ≡ indices_from test start validators
  unfolding indices_from
  list_same_behind start [] after not_one = ap (λ b. cond b (start ∷ []) []) not_one
  list_same_behind start (v ∷ validators) after not_one =
      ap (λ left. cond (test v) (start ∷ left) left) (list_same_behind (suc start) validators after not_one)

  filter_same_behind : (validators : List Validator) (after : Validator) → test after ≡ false → filter test (validators ++ after ∷ []) ≡ filter test validators
  filter_same_behind [] after not_one = ap (λ b. cond b (after ∷ []) []) not_one
  filter_same_behind (v ∷ validators) after not_one = ap (λ left. cond (test v) (v ∷ left) left) (filter_same_behind validators after not_one)

module _ (validators : List Validator) (epoch : ℕ) where
  pub list_at : (i : ℕ) (before after : Validator) → Some before ≡ slice_get validators i
      → is_active_validator before epoch ≡ is_active_validator after epoch → active_in (slice_set validators i after) epoch ≡ active_in validators epoch
  unfolding active_in
  list_at i before after is same = list_same_at (λ v. is_active_validator v epoch) 0 validators i before after is same

  pub balance_at : (i : ℕ) (before after : Validator) → Some before ≡ slice_get validators i → is_active_validator before epoch ≡ is_active_validator after epoch
      → before.effective_balance ≡ after.effective_balance → balance_in (slice_set validators i after) epoch ≡ balance_in validators epoch
  unfolding balance_in checked_sum_by
  balance_at i before after is same weight = sum_same_at (λ v. is_active_validator v epoch) 0 validators i before after is same weight

  pub list_behind : (after : Validator) → is_active_validator after epoch ≡ false → active_in (validators ++ after ∷ []) epoch ≡ active_in validators epoch
  unfolding active_in
  list_behind after not_one = list_same_behind (λ v. is_active_validator v epoch) 0 validators after not_one

  pub balance_behind : (after : Validator) → is_active_validator after epoch ≡ false → balance_in (validators ++ after ∷ []) epoch ≡ balance_in validators epoch
  unfolding balance_in checked_sum_by
  balance_behind after not_one = ap (checked_sum_by (λ v. v.effective_balance)) (filter_same_behind (λ v. is_active_validator v epoch) validators after not_one)
