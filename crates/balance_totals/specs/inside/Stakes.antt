-- What an epoch's end reads of each validator, as one pass over the registry gathers it.
use Rattle.std.specs.Prelude.{ℕ, ◌+◌, Bool, ◌&&◌, ◌||◌, List, map, nat_lt}
use Rattle.beacon_types.specs.declared.validator.Validator.{Validator}
use Rattle.spec_state.specs.declared.plain.PlainState.{PlainState}
use Rattle.spec_state.specs.Predicates.{is_active_validator}
use Rattle.spec_state.specs.Accessors.{get_previous_epoch}
use Rattle.balance_totals.specs.declared.stake.Stake.{Stake}

-- whether rewards and penalties reach a validator
unfoldable pub is_reached : ℕ → Validator → Bool
is_reached previous_epoch v = is_active_validator v previous_epoch || (v.slashed && nat_lt (previous_epoch + 1) v.withdrawable_epoch)

-- what is read of a validator
unfoldable pub stake_of : ℕ → Validator → Stake
stake_of previous_epoch v = record { effective_balance = v.effective_balance; eligible = is_reached previous_epoch v; slashed = v.slashed }

-- what is read of all, in order of index
unfoldable pub stakes_of : PlainState → List Stake
stakes_of state = map (stake_of (get_previous_epoch state)) state.validators

-- the effective balances that were read, and those of validators
unfoldable pub balances_read : List Stake → List ℕ
balances_read stakes = map (λ s. s.effective_balance) stakes

unfoldable pub effective_balances : List Validator → List ℕ
effective_balances validators = map (λ v. v.effective_balance) validators
