-- Who is active doesn't depend on effective balances.
use Rattle.std.proofs.Common.{◌≡◌, ℕ, zero, suc, Bool, cond, List, [], ◌∷◌, refl, ap, ◌∙◌}
use Rattle.beacon_types.specs.declared.validator.Validator.{Validator}
use Rattle.spec_state.specs.Predicates.{is_active_validator}
use Rattle.spec_state.specs.Accessors.{indices_from}
use Rattle.validator_registry.specs.Registries.{with_balance, with_balances}
use Rattle.active_sets.specs.inside.Active.{active_in}

module _ (epoch : ℕ) where
  active_from : ℕ → List Validator → List ℕ
  active_from start validators = indices_from (λ v. is_active_validator v epoch) start validators

  still_at : (start : ℕ) (validators : List Validator) (at balance : ℕ) → active_from start (with_balance validators at balance) ≡ active_from start validators
  unfolding active_from with_balance indices_from is_active_validator
  still_at start [] at balance = refl
  still_at start (v ∷ validators) zero balance = refl
  still_at start (v ∷ validators) (suc at) balance =
      ap (λ left. cond (is_active_validator v epoch) (start ∷ left) left) (still_at (suc start) validators at balance)

  pub list_still : (validators : List Validator) (changes : List (ℕ × ℕ)) → active_in (with_balances validators changes) epoch ≡ active_in validators epoch
  unfolding active_from active_in with_balances
  list_still validators [] = refl
  list_still validators (change ∷ changes) = still_at 0 (with_balances validators changes) change.0 change.1 ∙ list_still validators changes
