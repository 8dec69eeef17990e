-- The active validators of a state are indices of its registry, each once, in order.
use Rattle.std.proofs.Common.{◌≡◌, ℕ, zero, suc, ◌+◌, ◌<◌, ◌≤◌, Bool, true, false, cond, List, [], ◌∷◌, length, slice_index, inl, inr, arith}
use Rattle.std.proofs.lemmas.Bool.{cases_order}
use Rattle.beacon_types.specs.declared.validator.Validator.{Validator}
use Rattle.committees.specs.Committees.{IsWithoutRepeats}
use Rattle.spec_state.specs.declared.plain.PlainState.{PlainState}
use Rattle.spec_state.specs.Predicates.{is_active_validator}
use Rattle.spec_state.specs.Accessors.{indices_from, get_active_validator_indices}

-- indices from start on, all below end, in order
record Ascends (start end : ℕ) (indices : List ℕ) : Type 0 where
  few : start + length indices ≤ end
  from_start : (k : ℕ) → k < length indices → start ≤ slice_index indices k
  below_end : (k : ℕ) → k < length indices → slice_index indices k < end
  in_order : (i j : ℕ) → i < j → j < length indices → slice_index indices i < slice_index indices j

none : (start end : ℕ) → start ≤ end → Ascends start end []
none start end h = record { few = omega arith; from_start = λ k less. absurd (omega arith); below_end = λ k less. absurd (omega arith); in_order = λ i j order less. absurd (omega arith) }

later : (start end : ℕ) (indices : List ℕ) → Ascends (suc start) end indices → Ascends start end indices
later start end indices a = record {
  few = omega (arith, a.few);
  from_start = λ k less. omega (arith, a.from_start k less);
  below_end = a.below_end;
  in_order = a.in_order;
}

first_from_start : (start end : ℕ) (indices : List ℕ) → Ascends (suc start) end indices → (k : ℕ) → k < length (start ∷ indices) → start ≤ slice_index (start ∷ indices) k
first_from_start start end indices a zero less = omega arith
first_from_start start end indices a (suc k) less = omega (arith, a.from_start k (omega arith))

first_below : (start end : ℕ) (indices : List ℕ) → Ascends (suc start) end indices → (k : ℕ) → k < length (start ∷ indices) → slice_index (start ∷ indices) k < end
first_below start end indices a zero less = omega (arith, a.few)
first_below start end indices a (suc k) less = a.below_end k (omega arith)

first_in_order : (start end : ℕ) (indices : List ℕ) → Ascends (suc start) end indices → (i j : ℕ) → i < j → j < length (start ∷ indices) → slice_index (start ∷ indices) i < slice_index (start ∷ indices) j
first_in_order start end indices a i zero order less = absurd (omega arith)
first_in_order start end indices a zero (suc j) order less = omega (arith, a.from_start j (omega arith))
first_in_order start end indices a (suc i) (suc j) order less = a.in_order i j (omega arith) (omega arith)

with_first : (start end : ℕ) (indices : List ℕ) → Ascends (suc start) end indices → Ascends start end (start ∷ indices)
with_first start end indices a = record {
  few = omega (arith, a.few);
  from_start = first_from_start start end indices a;
  below_end = first_below start end indices a;
  in_order = first_in_order start end indices a;
}

either : (b : Bool) (start end : ℕ) (indices : List ℕ) → Ascends (suc start) end indices → Ascends start end (cond b (start ∷ indices) indices)
either true start end indices a = with_first start end indices a
either false start end indices a = later start end indices a

ascend : (test : Validator → Bool) (start end : ℕ) (validators : List Validator) → end ≡ start + length validators → Ascends start end (indices_from test start validators)
unfolding indices_from
ascend test start end [] e = none start end (omega arith)
ascend test start end (v ∷ validators) e = either (test v) start end (indices_from test (suc start) validators) (ascend test (suc start) end validators (omega arith))

module _ (state : PlainState) (epoch : ℕ) where
  active : Ascends 0 (length state.validators) (get_active_validator_indices state epoch)
  unfolding get_active_validator_indices
  active = ascend (λ v. is_active_validator v epoch) 0 (length state.validators) state.validators (omega arith)

  pub active_few : length (get_active_validator_indices state epoch) ≤ length state.validators
  active_few = omega (arith, active.few)

  pub active_below : (k : ℕ) → k < length (get_active_validator_indices state epoch) → slice_index (get_active_validator_indices state epoch) k < length state.validators
  active_below = active.below_end

  pub active_without_repeats : IsWithoutRepeats (get_active_validator_indices state epoch)
  active_without_repeats = record {
    once = λ i j i_less j_less same. elim (cases_order i j) [
      | inl e ↦ e
      | inr (inl less) ↦ absurd (omega (arith, active.in_order i j less j_less, same))
      | inr (inr more) ↦ absurd (omega (arith, active.in_order j i more i_less, same))
    ];
  }
