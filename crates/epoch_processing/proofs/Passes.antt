-- A pass over the registry by index, each step from the state that the step before it made. It has the invariant
-- `steps_from step n i state ≡ each_of step old (validator_indices old)`.
use Rattle.std.proofs.Common.{◌≡◌, ◌∙◌, ℕ, zero, suc, ◌+◌, ◌-◌, ◌<◌, ◌≤◌, List, [], ◌∷◌, length, drop, sym, ap, subst, arith}
use Rattle.std.specs.List.{range_with_len}
use Rattle.std.proofs.lemmas.Option.{slice_get_within}
use Rattle.bc_words.specs.Outcome.{Outcome, done, bind, Stops}
use Rattle.bc_words.specs.declared.stop.Stop.{Stop}
use Rattle.bc_words.proofs.Outcomes.{stops_bound}
use Rattle.spec_state.specs.declared.plain.PlainState.{PlainState}
use Rattle.balance_totals.proofs.LeftOf.{first_left, nothing_left}
use Rattle.spec_blocks.specs.Checks.{each_of}
use Rattle.spec_epochs.specs.Each.{validator_indices}

module _ (step : PlainState → ℕ → Outcome PlainState) where
  -- the steps from an index on, below n
  unfoldable pub steps_from : ℕ → ℕ → PlainState → Outcome PlainState
  steps_from n i state = each_of step state (range_with_len i (n - i))

  opens : (n i : ℕ) (state : PlainState) → i < n → steps_from n i state ≡ bind (step state i) (λ next. steps_from n (i + 1) next)
  unfolding steps_from each_of
  opens n i state less = let e : n - i ≡ suc (n - (i + 1)) = omega arith in ap (λ k. each_of step state (range_with_len i k)) e

  pub steps_begin : (state : PlainState) → steps_from (length state.validators) 0 state ≡ each_of step state (validator_indices state)
  unfolding steps_from validator_indices
  steps_begin state = let e : length state.validators - 0 ≡ length state.validators = omega arith in ap (λ k. each_of step state (range_with_len 0 k)) e

  step_done : (n i : ℕ) (state next : PlainState) → i < n → step state i ≡ done next → steps_from n i state ≡ steps_from n (i + 1) next
  step_done n i state next less e = opens n i state less ∙ ap (λ o. bind o (λ s. steps_from n (i + 1) s)) e

  step_stops : (n i : ℕ) (state : PlainState) (stop : Stop) → i < n → Stops stop (step state i) → Stops stop (steps_from n i state)
  step_stops n i state stop less e = rw (opens n i state less) (stops_bound stop (step state i) (λ s. steps_from n (i + 1) s) e)

  steps_end : (n i : ℕ) (state : PlainState) → n ≤ i → steps_from n i state ≡ done state
  unfolding steps_from each_of
  steps_end n i state past = let e : n - i ≡ zero = omega arith in ap (λ k. each_of step state (range_with_len i k)) e

  -- the same where the registry is walked
  pub walked_on : {A : Type 0} (items : List A) (i : ℕ) (state next : PlainState) (x : A) (left : List A) (index count : ℕ) → x ∷ left ≡ drop i items → index ≡ i → count ≡ i + 1 → step state index ≡ done next
      → steps_from (length items) count next ≡ steps_from (length items) i state
  walked_on items i state next x left index count here at behind e =
      ap (λ (k : ℕ). steps_from (length items) k next) behind
      ∙ sym (step_done (length items) i state next (slice_get_within items i x (first_left items i x left here)) (ap (step state) (sym at) ∙ e))

  pub walk_stops : {A : Type 0} (items : List A) (i : ℕ) (state : PlainState) (x : A) (left : List A) (index : ℕ) (stop : Stop) → x ∷ left ≡ drop i items → index ≡ i → Stops stop (step state index)
      → Stops stop (steps_from (length items) i state)
  walk_stops items i state x left index stop here at e =
      step_stops (length items) i state stop (slice_get_within items i x (first_left items i x left here)) (subst (λ (k : ℕ). Stops stop (step state k)) at e)

  pub walk_ends : {A : Type 0} (items : List A) (i : ℕ) (state : PlainState) → [] ≡ drop i items → steps_from (length items) i state ≡ done state
  walk_ends items i state none = steps_end (length items) i state (nothing_left items i none)
