-- Those whose flag is set, from an index on: whom a loop over the registry has still to weigh.
use Rattle.std.proofs.Common.{◌≡◌, ℕ, suc, ◌+◌, ◌≤◌, Bool, true, false, not, cond, List, ◌∷◌, length, filter, drop, get_or, Some, None, refl, sym, ap, ◌∙◌, arith, slice_get}
use Rattle.std.proofs.lemmas.List.{drop_all}
use Rattle.bc_words.specs.Outcome.{done, checked_add, checked_sum_by, checked_sum_from, StopsExactly}
use Rattle.bc_words.specs.declared.stop.Stop.{Stop}
use Rattle.bc_words.proofs.Sums.{sum_takes, sum_refuses, sum_of_nothing}
use Rattle.beacon_types.specs.declared.validator.Validator.{Validator}
use Rattle.spec_state.specs.declared.plain.PlainState.{PlainState}
use Rattle.spec_state.specs.Misc.{effective_balance}
use Rattle.spec_state.specs.Accessors.{indices_from}
use Rattle.balance_totals.proofs.LookedUp.{effective_some}
use Rattle.epoch_rewards.specs.inside.Marks.{flagged, flagged_from}
use Rattle.epoch_rewards.proofs.Places.{drop_at_item, past}

module _ (state : PlainState) (flags : List Bool) where
  abbrev from : ℕ → List ℕ
  from index = flagged_from state flags index

  opens : (index : ℕ) (v : Validator) → Some v ≡ slice_get state.validators index → from index ≡ filter (λ i. get_or flags i false) (cond (not v.slashed) (index ∷ indices_from (λ w. not w.slashed) (index + 1) (drop (index + 1) state.validators)) (indices_from (λ w. not w.slashed) (index + 1) (drop (index + 1) state.validators)))
  unfolding flagged_from indices_from
  opens index v at =
      ap (λ vs. filter (λ i. get_or flags i false) (indices_from (λ w. not w.slashed) index vs)) (drop_at_item state.validators index v at)
      ∙ ap (λ n. filter (λ i. get_or flags i false) (cond (not v.slashed) (index ∷ indices_from (λ w. not w.slashed) n (drop (index + 1) state.validators)) (indices_from (λ w. not w.slashed) n (drop (index + 1) state.validators)))) (let e : suc index ≡ index + 1 = omega arith in e)

  -- the validator counts
  pub one_counts : (index : ℕ) (v : Validator) → Some v ≡ slice_get state.validators index → v.slashed ≡ false → get_or flags index false ≡ true → from index ≡ index ∷ from (index + 1)
  unfolding flagged_from
  one_counts index v at unslashed flag =
      opens index v at
      ∙ ap (λ b. filter (λ i. get_or flags i false) (cond (not b) (index ∷ indices_from (λ w. not w.slashed) (index + 1) (drop (index + 1) state.validators)) (indices_from (λ w. not w.slashed) (index + 1) (drop (index + 1) state.validators)))) unslashed
      ∙ ap (λ b. cond b (index ∷ from (index + 1)) (from (index + 1))) flag

  pub one_slashed : (index : ℕ) (v : Validator) → Some v ≡ slice_get state.validators index → v.slashed ≡ true → from index ≡ from (index + 1)
  unfolding flagged_from
  one_slashed index v at slashed =
      opens index v at
      ∙ ap (λ b. filter (λ i. get_or flags i false) (cond (not b) (index ∷ indices_from (λ w. not w.slashed) (index + 1) (drop (index + 1) state.validators)) (indices_from (λ w. not w.slashed) (index + 1) (drop (index + 1) state.validators)))) slashed

  behind_flag : (index : ℕ) (b : Bool) → get_or flags index false ≡ false → filter (λ i. get_or flags i false) (cond b (index ∷ indices_from (λ w. not w.slashed) (index + 1) (drop (index + 1) state.validators)) (indices_from (λ w. not w.slashed) (index + 1) (drop (index + 1) state.validators))) ≡ from (index + 1)
  unfolding flagged_from
  behind_flag index true flag = ap (λ b. cond b (index ∷ from (index + 1)) (from (index + 1))) flag
  behind_flag index false flag = refl

  pub one_absent : (index : ℕ) (v : Validator) → Some v ≡ slice_get state.validators index → get_or flags index false ≡ false → from index ≡ from (index + 1)
  one_absent index v at flag = opens index v at ∙ behind_flag index (not v.slashed) flag

  pub none_there : (index : ℕ) → None ≡ slice_get state.validators index → from index ≡ from (index + 1)
  unfolding flagged_from indices_from
  none_there index e =
      let over = past state.validators index e in
      ap (λ vs. filter (λ i. get_or flags i false) (indices_from (λ w. not w.slashed) index vs)) (drop_all index state.validators over)
      ∙ sym (ap (λ vs. filter (λ i. get_or flags i false) (indices_from (λ w. not w.slashed) (index + 1) vs)) (drop_all (index + 1) state.validators (omega arith)))

  -- ---- the sum so far, before those from an index on

  pub balance_added : (index sum balance next : ℕ) → balance ≡ effective_balance state.validators index → from index ≡ index ∷ from (index + 1) → checked_add sum balance ≡ done next → checked_sum_from (effective_balance state.validators) sum (from index) ≡ checked_sum_from (effective_balance state.validators) next (from (index + 1))
  balance_added index sum balance next is one e = ap (checked_sum_from (effective_balance state.validators) sum) one ∙ sum_takes (effective_balance state.validators) index (from (index + 1)) sum balance next is e

  pub balance_refused : (index sum balance : ℕ) (stop : Stop) → balance ≡ effective_balance state.validators index → from index ≡ index ∷ from (index + 1) → StopsExactly stop (checked_add sum balance) → StopsExactly stop (checked_sum_from (effective_balance state.validators) sum (from index))
  balance_refused index sum balance stop is one e = rw one (sum_refuses (effective_balance state.validators) index (from (index + 1)) sum balance stop is e)

  pub balance_left : (index sum : ℕ) → from index ≡ from (index + 1) → checked_sum_from (effective_balance state.validators) sum (from index) ≡ checked_sum_from (effective_balance state.validators) sum (from (index + 1))
  balance_left index sum e = ap (checked_sum_from (effective_balance state.validators) sum) e

  pub flagged_begin : checked_sum_from (effective_balance state.validators) 0 (from 0) ≡ checked_sum_by (effective_balance state.validators) (flagged state flags)
  unfolding flagged checked_sum_by
  flagged_begin = refl

  pub flagged_end : (index sum : ℕ) → length state.validators ≤ index → checked_sum_from (effective_balance state.validators) sum (from index) ≡ done sum
  unfolding flagged_from indices_from
  flagged_end index sum over = ap (λ vs. checked_sum_from (effective_balance state.validators) sum (filter (λ i. get_or flags i false) (indices_from (λ v. not v.slashed) index vs))) (drop_all index state.validators over) ∙ sum_of_nothing (effective_balance state.validators) sum

pub weight_read : (state : PlainState) (index : ℕ) (v : Validator) → Some v ≡ slice_get state.validators index → v.effective_balance ≡ effective_balance state.validators index
weight_read state index v at = sym (effective_some state.validators index v at)

pub ruleset weighing = (flagged_begin, flagged_end, balance_added, balance_refused, balance_left)
