-- The validators of genesis beside those of a state, at each place those that the two have there.
use Rattle.std.specs.Prelude.{ℕ, Bool, true, ◌&&◌, ◌==◌, not, List, [], ◌∷◌, Option, Some, None, if◌then◌else◌}
use Rattle.beacon_types.specs.declared.validator.Validator.{Validator}
use Rattle.spec_state.specs.Predicates.{is_active_validator}

-- A validator is in an epoch as it is at genesis: active where it is active there, and then with the same effective balance. One that
-- genesis doesn't have isn't active
unfoldable pub stays_in : ℕ → Option Validator → Validator → Bool
stays_in epoch None validator = not (is_active_validator validator epoch)
stays_in epoch (Some own) validator =
    if is_active_validator own 0 then is_active_validator validator epoch && (validator.effective_balance == own.effective_balance)
    else not (is_active_validator validator epoch)

-- so is each; those of genesis that the state doesn't have aren't active there
unfoldable pub stay_in : ℕ → List Validator → List Validator → Bool
stay_in epoch [] [] = true
stay_in epoch [] (validator ∷ validators) = stays_in epoch None validator && stay_in epoch [] validators
stay_in epoch (own ∷ owns) [] = not (is_active_validator own 0) && stay_in epoch owns []
stay_in epoch (own ∷ owns) (validator ∷ validators) = stays_in epoch (Some own) validator && stay_in epoch owns validators

-- in two epochs
unfoldable pub stays : ℕ → ℕ → Option Validator → Validator → Bool
stays previous current own validator = stays_in previous own validator && stays_in current own validator

unfoldable pub stay : ℕ → ℕ → List Validator → List Validator → Bool
stay previous current [] [] = true
stay previous current [] (validator ∷ validators) = stays previous current None validator && stay previous current [] validators
stay previous current (own ∷ owns) [] = not (is_active_validator own 0) && stay previous current owns []
stay previous current (own ∷ owns) (validator ∷ validators) = stays previous current (Some own) validator && stay previous current owns validators
