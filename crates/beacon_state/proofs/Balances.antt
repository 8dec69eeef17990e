-- the effective balance at an index is that of the validator there
use Rattle.std.proofs.Common.{◌≡◌, ℕ, zero, suc, List, [], ◌∷◌, Option, Some, None, slice_get, ap}
use Rattle.beacon_types.specs.declared.validator.Validator.{Validator}
use Rattle.spec_state.specs.Misc.{effective_balance}

abbrev balance_of : ℕ → Option Validator → ℕ
balance_of none None = none
balance_of none (Some v) = v.effective_balance

pub effective_balance_at : (validators : List Validator) (index : ℕ) (v : Validator) → Some v ≡ slice_get validators index → v.effective_balance ≡ effective_balance validators index
unfolding effective_balance
effective_balance_at [] index v h = absurd cc
effective_balance_at (w ∷ validators) zero v h = ap (balance_of 0) h
effective_balance_at (w ∷ validators) (suc index) v h = effective_balance_at validators index v h
