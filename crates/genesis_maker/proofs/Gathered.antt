-- The loop over the registry and its balances: the validators so far, before what is made of those that are left.
use Rattle.std.proofs.Common.{◌≡◌, ◌∙◌, ℕ, List, [], ◌∷◌, ◌++◌, drop, slice_get, refl, sym, ap, append_assoc}
use Rattle.std.proofs.lemmas.List.{append-nil}
use Rattle.bc_preset.specs.declared.presets.Preset.{Preset}
use Rattle.beacon_types.specs.declared.validator.Validator.{Validator}
use Rattle.spec_genesis.specs.InitializeBeaconStateFromEth1.{genesis_validators}
use Rattle.genesis_maker.specs.inside.Gathered.{with_balance}

no_balances : (preset : Preset) (validators : List Validator) → genesis_validators preset validators [] ≡ validators
unfolding genesis_validators
no_balances preset [] = refl
no_balances preset (validator ∷ validators) = refl

first_made : (preset : Preset) (validator : Validator) (validators : List Validator) (balances : List ℕ)
    → genesis_validators preset (validator ∷ validators) balances ≡ with_balance preset validator (slice_get balances 0) ∷ genesis_validators preset validators (drop 1 balances)
unfolding genesis_validators
first_made preset validator validators [] = ap (λ (rest : List Validator). validator ∷ rest) (sym (no_balances preset validators))
first_made preset validator validators (balance ∷ balances) = refl

-- one validator more
pub one_made : (preset : Preset) (all : List Validator) (validator : Validator) (left : List Validator) (balances : List ℕ)
    → (all ++ with_balance preset validator (slice_get balances 0) ∷ []) ++ genesis_validators preset left (drop 1 balances) ≡ all ++ genesis_validators preset (validator ∷ left) balances
one_made preset all validator left balances =
    append_assoc all (with_balance preset validator (slice_get balances 0) ∷ []) (genesis_validators preset left (drop 1 balances))
    ∙ ap (λ (rest : List Validator). all ++ rest) (sym (first_made preset validator left balances))

pub all_made : (preset : Preset) (all : List Validator) (balances : List ℕ) → all ++ genesis_validators preset [] balances ≡ all
unfolding genesis_validators
all_made preset all balances = append-nil all

pub ruleset gathering = (one_made, all_made)
