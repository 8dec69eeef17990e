-- What the registry is behind a deposit.
use Rattle.std.proofs.Common.{◌≡◌, ℕ, Bool, true, false, List, [], ◌∷◌, ◌++◌, length, None}
use Rattle.std.specs.Prelude.{nat_lt, if◌then◌else◌}
use Rattle.bc_words.specs.Outcome.{done, refused, bind, checked_push}
use Rattle.bc_words.specs.declared.refusal.Refusal.TheVariants.{ListFull}
use Rattle.beacon_types.specs.declared.deposit.Deposit.{Deposit}
use Rattle.beacon_types.specs.declared.validator.Validator.{Validator}
use Rattle.spec_state.specs.declared.plain.PlainState.{PlainState}
use Rattle.spec_blocks.specs.GetValidatorFromDeposit.{get_validator_from_deposit}
use Rattle.spec_blocks.specs.ProcessDeposit.{add_validator, credit_deposit}

added_by : (state new : PlainState) (vs : List Validator) (bs : List ℕ) (room also : Bool)
    → bind (if room then done vs else refused ListFull) (λ validators. bind (if also then done bs else refused ListFull) (λ balances. done (record state { validators = validators; balances = balances }))) ≡ done new
    → new.validators ≡ vs
added_by state new vs bs true true e = cc
added_by state new vs bs true false e = absurd cc
added_by state new vs bs false also e = absurd cc

-- a new key brings the deposit's validator, at the end
pub joined : (state new : PlainState) (deposit : Deposit) → credit_deposit state deposit None ≡ done new → new.validators ≡ state.validators ++ get_validator_from_deposit state deposit ∷ []
unfolding credit_deposit add_validator checked_push
joined state new deposit e =
    added_by state new (state.validators ++ get_validator_from_deposit state deposit ∷ []) (state.balances ++ deposit.content.amount ∷ [])
    (nat_lt (length state.validators) state.preset.validator_registry_limit) (nat_lt (length state.balances) state.preset.validator_registry_limit) e
