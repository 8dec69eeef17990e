-- The pending attestations of a sound state's two epochs are sound.
use Rattle.std.proofs.Common.{ℕ, ◌≤◌, cond, refl, sym, subst, arith, inl, inr}
use Rattle.std.specs.List.{AllByRecursion}
use Rattle.std.proofs.lemmas.Bool.{cases_eq, eq-eqb, ne_eqb}
use Rattle.spec_state.specs.declared.plain.PlainState.{PlainState}
use Rattle.spec_state.specs.Accessors.{get_current_epoch, get_previous_epoch}
use Rattle.spec_state.specs.Soundness.{IsSoundTo, IsSoundPending}
use Rattle.spec_epochs.specs.Helpers.{get_matching_source_attestations}

pub previous_is_earlier : (state : PlainState) → get_previous_epoch state ≤ get_current_epoch state
unfolding get_previous_epoch
previous_is_earlier state = omega arith

pub sound_current : (justified : ℕ) (state : PlainState) → IsSoundTo justified state → AllByRecursion (IsSoundPending state (get_current_epoch state)) (get_matching_source_attestations state (get_current_epoch state))
unfolding get_matching_source_attestations
sound_current justified state sound =
    subst (λ b. AllByRecursion (IsSoundPending state (get_current_epoch state)) (cond b state.current_epoch_attestations state.previous_epoch_attestations)) (sym (eq-eqb (get_current_epoch state) (get_current_epoch state) refl)) sound.current_attestations

pub sound_previous : (justified : ℕ) (state : PlainState) → IsSoundTo justified state → AllByRecursion (IsSoundPending state (get_previous_epoch state)) (get_matching_source_attestations state (get_previous_epoch state))
unfolding get_matching_source_attestations
sound_previous justified state sound = elim (cases_eq (get_previous_epoch state) (get_current_epoch state)) [
  | inl e ↦ subst (λ b. AllByRecursion (IsSoundPending state (get_previous_epoch state)) (cond b state.current_epoch_attestations state.previous_epoch_attestations)) (sym (eq-eqb (get_previous_epoch state) (get_current_epoch state) e))
      (subst (λ n. AllByRecursion (IsSoundPending state n) state.current_epoch_attestations) (sym e) sound.current_attestations)
  | inr ne ↦ subst (λ b. AllByRecursion (IsSoundPending state (get_previous_epoch state)) (cond b state.current_epoch_attestations state.previous_epoch_attestations)) (sym (ne_eqb (get_previous_epoch state) (get_current_epoch state) ne)) sound.previous_attestations
]
