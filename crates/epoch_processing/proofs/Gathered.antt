-- The effective balances that are gathered of a state are those of its validators.
use Rattle.std.proofs.Common.{◌≡◌, ◌∙◌, ℕ, List, [], ◌∷◌, map, refl, ap}
use Rattle.beacon_types.specs.declared.validator.Validator.{Validator}
use Rattle.spec_state.specs.declared.plain.PlainState.{PlainState}
use Rattle.spec_state.specs.Accessors.{get_previous_epoch}
use Rattle.balance_totals.specs.declared.stake.Stake.{Stake}
use Rattle.balance_totals.specs.inside.Stakes.{stake_of, stakes_of, balances_read, effective_balances}

read_of : (epoch : ℕ) (validators : List Validator) → balances_read (map (stake_of epoch) validators) ≡ effective_balances validators
unfolding stake_of balances_read effective_balances
read_of epoch [] = refl
read_of epoch (v ∷ validators) = ap (λ (others : List ℕ). v.effective_balance ∷ others) (read_of epoch validators)

pub gathered_balances : (state : PlainState) (stakes : List Stake) → stakes ≡ stakes_of state → balances_read stakes ≡ effective_balances state.validators
unfolding stakes_of
gathered_balances state stakes all = ap balances_read all ∙ read_of (get_previous_epoch state) state.validators
