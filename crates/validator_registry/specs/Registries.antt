-- A registry: its root, and other effective balances in it.
use Rattle.std.specs.Prelude.{ℕ, zero, suc, ◌^◌, List, [], ◌∷◌}
use Rattle.ssz_codec.specs.Lists.{list_codec}
use Rattle.beacon_types.specs.declared.validator.Validator.{Validator}
use Rattle.beacon_types.specs.Containers.{validator_codec}

-- the root of a list of at most 2 ^ 40 validators (VALIDATOR_REGISTRY_LIMIT)
unfoldable pub registry_root : List Validator → List ℕ
registry_root validators = (list_codec validator_codec (2 ^ 40)).hash_tree_root validators

-- the validators, where the one at the place has this effective balance
unfoldable pub with_balance : List Validator → ℕ → ℕ → List Validator
with_balance [] at balance = []
with_balance (v ∷ vs) zero balance = record v { effective_balance = balance } ∷ vs
with_balance (v ∷ vs) (suc at) balance = v ∷ with_balance vs at balance

-- and where each of the changes is made: a place, and the effective balance there
unfoldable pub with_balances : List Validator → List (ℕ × ℕ) → List Validator
with_balances validators [] = validators
with_balances validators (change ∷ changes) = with_balance (with_balances validators changes) change.0 change.1
