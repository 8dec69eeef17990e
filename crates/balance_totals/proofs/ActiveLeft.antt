-- The active validators of a registry, one at a time: what a loop over those that are left has still to do.
use Rattle.std.proofs.Common.{◌≡◌, ℕ, suc, ◌+◌, ◌<◌, Bool, true, false, cond, List, [], ◌∷◌, ◌++◌, Option, Some, None, IfSome, length, filter, refl, sym, ap, subst, ◌∙◌, arith, append_assoc}
use Rattle.std.proofs.lemmas.List.{append-nil}
use Rattle.bc_words.specs.Outcome.{Outcome, done, refused, limited, bind, checked_add, checked_sum_from, checked_sum_by, StopsExactly}
use Rattle.bc_words.specs.declared.stop.Stop.{Stop}
use Rattle.bc_words.proofs.Sums.{sum_takes, sum_refuses, sum_of_nothing}
use Rattle.beacon_types.specs.declared.validator.Validator.{Validator}
use Rattle.spec_state.specs.declared.plain.PlainState.{PlainState}
use Rattle.spec_state.specs.Predicates.{is_active_validator}
use Rattle.spec_state.specs.Misc.{effective_balance}
use Rattle.spec_state.specs.Accessors.{indices_from, get_active_validator_indices}
use Rattle.active_sets.specs.inside.Active.{balance_in}
use Rattle.balance_totals.specs.inside.Sums.{IsNextSum}

-- ---- the indices of those who pass a test

module _ (test : Validator → Bool) where
  listed : (indices : List ℕ) (i : ℕ) (v : Validator) (left : List Validator) → test v ≡ true → (indices ++ i ∷ []) ++ indices_from test (i + 1) left ≡ indices ++ indices_from test i (v ∷ left)
  unfolding indices_from
  listed indices i v left is =
      let next : i + 1 ≡ suc i = omega arith in
      append_assoc indices (i ∷ []) (indices_from test (i + 1) left)
      ∙ (ap (λ j. indices ++ i ∷ indices_from test j left) next
      ∙ sym (ap (λ b. indices ++ cond b (i ∷ indices_from test (suc i) left) (indices_from test (suc i) left)) is))

  passed_over : (indices : List ℕ) (i : ℕ) (v : Validator) (left : List Validator) → test v ≡ false → indices ++ indices_from test (i + 1) left ≡ indices ++ indices_from test i (v ∷ left)
  unfolding indices_from
  passed_over indices i v left is =
      let next : i + 1 ≡ suc i = omega arith in
      ap (λ j. indices ++ indices_from test j left) next
      ∙ sym (ap (λ b. indices ++ cond b (i ∷ indices_from test (suc i) left) (indices_from test (suc i) left)) is)

  all_listed : (indices : List ℕ) (i : ℕ) → indices ++ indices_from test i [] ≡ indices
  unfolding indices_from
  all_listed indices i = append-nil indices

  as_many : (i : ℕ) (left : List Validator) → length (filter test left) ≡ length (indices_from test i left)
  unfolding indices_from
  as_many i [] = refl
  as_many i (v ∷ left) = elim (test v) as (λ b. length (cond b (v ∷ filter test left) (filter test left)) ≡ length (cond b (i ∷ indices_from test (suc i) left) (indices_from test (suc i) left))) [
    | true ↦ ap suc (as_many (suc i) left)
    | false ↦ as_many (suc i) left
  ]

  -- ---- their effective balances, read at their indices or of themselves

  bound_same : (o : Outcome ℕ) (f g : ℕ → Outcome ℕ) → ((sum : ℕ) → f sum ≡ g sum) → bind o f ≡ bind o g
  bound_same (done sum) f g same = same sum
  bound_same (refused r) f g same = refl
  bound_same (limited l) f g same = refl

  read_same : (read : ℕ → ℕ) (i sum : ℕ) (left : List Validator) → ((k : ℕ) → k < length left → read (i + k) ≡ effective_balance left k) → checked_sum_from read sum (indices_from test i left) ≡ checked_sum_from (λ w. w.effective_balance) sum (filter test left)
  unfolding indices_from checked_sum_from effective_balance
  read_same read i sum [] same = refl
  read_same read i sum (v ∷ left) same =
      let here : read i ≡ v.effective_balance = let at : i ≡ i + 0 = omega arith in ap read at ∙ same 0 (omega arith) in
      let more : (k : ℕ) → k < length left → read (suc i + k) ≡ effective_balance left k = λ k less. let at : suc i + k ≡ i + suc k = omega arith in ap read at ∙ same (suc k) (omega (arith, less)) in
      elim (test v) as (λ b. checked_sum_from read sum (cond b (i ∷ indices_from test (suc i) left) (indices_from test (suc i) left)) ≡ checked_sum_from (λ w. w.effective_balance) sum (cond b (v ∷ filter test left) (filter test left))) [
        | true ↦ ap (λ n. bind (checked_add sum n) (λ next. checked_sum_from read next (indices_from test (suc i) left))) here
            ∙ bound_same (checked_add sum v.effective_balance) (λ next. checked_sum_from read next (indices_from test (suc i) left)) (λ next. checked_sum_from (λ w. w.effective_balance) next (filter test left)) (λ next. read_same read (suc i) next left more)
        | false ↦ read_same read (suc i) sum left more
      ]

-- ---- those who are active at an epoch

abbrev active_at : ℕ → Validator → Bool
active_at epoch v = is_active_validator v epoch

-- the indices of those who are active among those left, the first of whom has this index
unfoldable pub indices_left : ℕ → ℕ → List Validator → List ℕ
indices_left epoch i left = indices_from (active_at epoch) i left

-- how many are active among those left
unfoldable pub count_left : ℕ → List Validator → ℕ
count_left epoch left = length (filter (active_at epoch) left)

-- the sum with the effective balances of those who are active among those left
unfoldable pub sum_left : ℕ → ℕ → List Validator → Outcome ℕ
sum_left epoch sum left = checked_sum_from (λ v. v.effective_balance) sum (filter (active_at epoch) left)

module _ (epoch : ℕ) where
  pub list_begins : (state : PlainState) → indices_left epoch 0 state.validators ≡ get_active_validator_indices state epoch
  unfolding indices_left get_active_validator_indices
  list_begins state = refl

  pub list_grows : (indices : List ℕ) (i : ℕ) (v : Validator) (left : List Validator) → is_active_validator v epoch ≡ true → (indices ++ i ∷ []) ++ indices_left epoch (i + 1) left ≡ indices ++ indices_left epoch i (v ∷ left)
  unfolding indices_left
  list_grows indices i v left is = listed (active_at epoch) indices i v left is

  pub list_stays : (indices : List ℕ) (i : ℕ) (v : Validator) (left : List Validator) → is_active_validator v epoch ≡ false → indices ++ indices_left epoch (i + 1) left ≡ indices ++ indices_left epoch i (v ∷ left)
  unfolding indices_left
  list_stays indices i v left is = passed_over (active_at epoch) indices i v left is

  pub list_ends : (indices : List ℕ) (i : ℕ) → indices ++ indices_left epoch i [] ≡ indices
  unfolding indices_left
  list_ends indices i = all_listed (active_at epoch) indices i

  pub count_begins : (state : PlainState) → count_left epoch state.validators ≡ length (get_active_validator_indices state epoch)
  unfolding count_left get_active_validator_indices
  count_begins state = as_many (active_at epoch) 0 state.validators

  pub count_grows : (v : Validator) (left : List Validator) → is_active_validator v epoch ≡ true → count_left epoch (v ∷ left) ≡ count_left epoch left + 1
  unfolding count_left
  count_grows v left is =
      let next : suc (length (filter (active_at epoch) left)) ≡ length (filter (active_at epoch) left) + 1 = omega arith in
      ap (λ b. length (cond b (v ∷ filter (active_at epoch) left) (filter (active_at epoch) left))) is ∙ next

  pub count_stays : (v : Validator) (left : List Validator) → is_active_validator v epoch ≡ false → count_left epoch (v ∷ left) ≡ count_left epoch left
  unfolding count_left
  count_stays v left is = ap (λ b. length (cond b (v ∷ filter (active_at epoch) left) (filter (active_at epoch) left))) is

  pub count_ends : count_left epoch [] ≡ 0
  unfolding count_left
  count_ends = refl

  pub sum_begins : (state : PlainState) → sum_left epoch 0 state.validators ≡ checked_sum_by (effective_balance state.validators) (get_active_validator_indices state epoch)
  unfolding sum_left checked_sum_by get_active_validator_indices
  sum_begins state = sym (read_same (active_at epoch) (effective_balance state.validators) 0 0 state.validators (λ k less. let at : 0 + k ≡ k = omega arith in ap (effective_balance state.validators) at))

  opens : (sum : ℕ) (v : Validator) (left : List Validator) (b : Bool) → is_active_validator v epoch ≡ b → sum_left epoch sum (v ∷ left) ≡ checked_sum_from (λ w. w.effective_balance) sum (cond b (v ∷ filter (active_at epoch) left) (filter (active_at epoch) left))
  unfolding sum_left
  opens sum v left b is = ap (λ c. checked_sum_from (λ w. w.effective_balance) sum (cond c (v ∷ filter (active_at epoch) left) (filter (active_at epoch) left))) is

  pub sum_grows : (sum after : ℕ) (v : Validator) (left : List Validator) → is_active_validator v epoch ≡ true → checked_add sum v.effective_balance ≡ done after → sum_left epoch after left ≡ sum_left epoch sum (v ∷ left)
  unfolding sum_left
  sum_grows sum after v left is e = sym (opens sum v left true is ∙ sum_takes (λ w. w.effective_balance) v (filter (active_at epoch) left) sum v.effective_balance after refl e)

  pub sum_stays : (sum : ℕ) (v : Validator) (left : List Validator) → is_active_validator v epoch ≡ false → sum_left epoch sum left ≡ sum_left epoch sum (v ∷ left)
  unfolding sum_left
  sum_stays sum v left is = sym (opens sum v left false is)

  pub sum_stops : (sum : ℕ) (v : Validator) (left : List Validator) (stop : Stop) → is_active_validator v epoch ≡ true → StopsExactly stop (checked_add sum v.effective_balance) → StopsExactly stop (sum_left epoch sum (v ∷ left))
  sum_stops sum v left stop is e = rw (opens sum v left true is) (sum_refuses (λ w. w.effective_balance) v (filter (active_at epoch) left) sum v.effective_balance stop refl e)

  pub sum_ends : (sum : ℕ) → sum_left epoch sum [] ≡ done sum
  unfolding sum_left
  sum_ends sum = sum_of_nothing (λ w. w.effective_balance) sum

  -- the sum that a state notes of them is that sum
  pub noted : (state : PlainState) → balance_in state.validators epoch ≡ checked_sum_by (effective_balance state.validators) (get_active_validator_indices state epoch)
  unfolding balance_in sum_left checked_sum_by
  noted state = sum_begins state

  -- ---- the sum where it fits

  pub known_begins : (state : PlainState) → IfSome (Some 0) (λ sum. sum_left epoch sum state.validators ≡ balance_in state.validators epoch)
  unfolding balance_in sum_left checked_sum_by
  known_begins state = refl

  pub known_grows : (balance next : Option ℕ) (total : Outcome ℕ) (v : Validator) (left : List Validator) → is_active_validator v epoch ≡ true → IsNextSum balance v.effective_balance next
      → IfSome balance (λ sum. sum_left epoch sum (v ∷ left) ≡ total) → IfSome next (λ sum. sum_left epoch sum left ≡ total)
  known_grows None next total v left is given_up known = subst (λ (n : Option ℕ). IfSome n (λ sum. sum_left epoch sum left ≡ total)) (sym given_up) tt
  known_grows (Some sum) None total v left is over known = tt
  known_grows (Some sum) (Some after) total v left is e known = sum_grows sum after v left is e ∙ known

  pub known_stays : (balance : Option ℕ) (total : Outcome ℕ) (v : Validator) (left : List Validator) → is_active_validator v epoch ≡ false
      → IfSome balance (λ sum. sum_left epoch sum (v ∷ left) ≡ total) → IfSome balance (λ sum. sum_left epoch sum left ≡ total)
  known_stays None total v left is known = tt
  known_stays (Some sum) total v left is known = sum_stays sum v left is ∙ known

  pub known_ends : (balance : Option ℕ) (total : Outcome ℕ) → IfSome balance (λ sum. sum_left epoch sum [] ≡ total) → IfSome balance (λ sum. total ≡ done sum)
  known_ends None total known = tt
  known_ends (Some sum) total known = sym known ∙ sum_ends sum

-- what the loops over the registry need: of the list, of the count, and of the sum
pub ruleset listing = (list_begins, list_grows, list_stays, list_ends, known_begins, known_grows, known_stays, known_ends)

pub ruleset counting = (count_begins, count_grows, count_stays, count_ends)

pub ruleset summing = (sum_begins, sum_grows, sum_stays, sum_stops, sum_ends)
