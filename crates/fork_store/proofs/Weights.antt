-- The balances of a state's validators, one at a time: what a loop over those that are left has still to do.
use Rattle.std.proofs.Common.{◌≡◌, ℕ, suc, ◌+◌, ◌<◌, Bool, true, false, cond, List, [], ◌∷◌, ◌++◌, length, map, refl, sym, ap, ap₂, ◌∙◌, arith, append_assoc}
use Rattle.std.specs.List.{sum_by}
use Rattle.std.proofs.lemmas.List.{append-nil}
use Rattle.std.proofs.lemmas.List.Sums.{sum_by-cons}
use Rattle.beacon_types.specs.declared.validator.Validator.{Validator}
use Rattle.spec_state.specs.declared.plain.PlainState.{PlainState}
use Rattle.spec_state.specs.Misc.{effective_balance}
use Rattle.spec_state.specs.Predicates.{is_active_validator}
use Rattle.spec_state.specs.Accessors.{get_current_epoch, get_active_validator_indices, indices_from}
use Rattle.spec_fork_choice.specs.GetLatestAttestingBalance.{active_in}
use Rattle.bc_words.specs.Outcome.{Outcome, done, refused, limited}
use Rattle.bc_words.specs.declared.refusal.Refusal.{Refusal}
use Rattle.bc_words.specs.declared.stop.Limit.{Limit}
use Rattle.fork_store.specs.Arrays.{balance_in, balances_in, no_balances, balances_of}

-- ---- the balances of validators, of which some are left

module _ (epoch : ℕ) where
  pub list_begins : (validators : List Validator) → [] ++ map (balance_in epoch) validators ≡ map (balance_in epoch) validators
  list_begins validators = refl

  pub list_grows : (balances : List ℕ) (v : Validator) (left : List Validator) → (balances ++ balance_in epoch v ∷ []) ++ map (balance_in epoch) left ≡ balances ++ map (balance_in epoch) (v ∷ left)
  list_grows balances v left = append_assoc balances (balance_in epoch v ∷ []) (map (balance_in epoch) left)

  pub list_ends : (balances : List ℕ) → balances ++ map (balance_in epoch) [] ≡ balances
  list_ends balances = append-nil balances

  pub sum_grows : (v : Validator) (left : List Validator) → sum_by (balance_in epoch) (v ∷ left) ≡ balance_in epoch v + sum_by (balance_in epoch) left
  sum_grows v left = sum_by-cons (balance_in epoch) v left

  pub sum_ends : sum_by (balance_in epoch) [] ≡ 0
  sum_ends = refl

  abbrev active_at : Validator → Bool
  active_at v = is_active_validator v epoch

  -- those who aren't active add nothing, and the others what is read at their indices
  sum_read : (read : ℕ → ℕ) (i : ℕ) (left : List Validator) → ((k : ℕ) → k < length left → read (i + k) ≡ effective_balance left k) → sum_by read (indices_from active_at i left) ≡ sum_by (balance_in epoch) left
  unfolding indices_from effective_balance balance_in
  sum_read read i [] same = refl
  sum_read read i (v ∷ left) same =
      let here : read i ≡ v.effective_balance = let at : i ≡ i + 0 = omega arith in ap read at ∙ same 0 (omega arith) in
      let more : (k : ℕ) → k < length left → read (suc i + k) ≡ effective_balance left k = λ k less. let at : suc i + k ≡ i + suc k = omega arith in ap read at ∙ same (suc k) (omega (arith, less)) in
      let rest = sum_read read (suc i) left more in
      by (active_at v) here rest ∙ sym (sum_by-cons (balance_in epoch) v left)
    where
      by : (b : Bool) → read i ≡ v.effective_balance → sum_by read (indices_from active_at (suc i) left) ≡ sum_by (balance_in epoch) left
          → sum_by read (cond b (i ∷ indices_from active_at (suc i) left) (indices_from active_at (suc i) left)) ≡ cond b v.effective_balance 0 + sum_by (balance_in epoch) left
      by true here rest = sum_by-cons read i (indices_from active_at (suc i) left) ∙ ap₂ (λ (m n : ℕ). m + n) here rest
      by false here rest = let e : sum_by (balance_in epoch) left ≡ 0 + sum_by (balance_in epoch) left = omega arith in rest ∙ e

pub sum_is : (state : PlainState) → sum_by (balance_in (get_current_epoch state)) state.validators ≡ sum_by (effective_balance state.validators) (active_in state)
unfolding active_in get_active_validator_indices
sum_is state = sym (sum_read (get_current_epoch state) (effective_balance state.validators) 0 state.validators (λ k less. let at : 0 + k ≡ k = omega arith in ap (effective_balance state.validators) at))

pub ruleset listing = (list_begins, list_grows, list_ends, sum_grows, sum_ends, sum_is)

-- ---- where there is no state

pub none_refused : (outcome : Outcome PlainState) (why : Refusal) → outcome ≡ refused why → no_balances ≡ balances_of outcome
unfolding balances_of
none_refused outcome why is = sym (ap balances_of is)

pub none_limited : (outcome : Outcome PlainState) (bound : Limit) → outcome ≡ limited bound → no_balances ≡ balances_of outcome
unfolding balances_of
none_limited outcome bound is = sym (ap balances_of is)

pub some_balances : (outcome : Outcome PlainState) (state : PlainState) → outcome ≡ done state → balances_in state ≡ balances_of outcome
unfolding balances_of
some_balances outcome state is = sym (ap balances_of is)

pub ruleset no_state = (none_refused, none_limited, some_balances)
