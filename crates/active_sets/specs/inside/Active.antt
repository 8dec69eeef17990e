-- The active validators of an epoch: their list, and what they weigh.
use Rattle.std.specs.Prelude.{◌≡◌, ℕ, List, Option, IfSome}
use Rattle.std.specs.List.{filter}
use Rattle.bc_words.specs.Outcome.{Outcome, done, checked_sum_by}
use Rattle.beacon_types.specs.declared.validator.Validator.{Validator}
use Rattle.spec_state.specs.Predicates.{is_active_validator}
use Rattle.spec_state.specs.Accessors.{indices_from}

-- the indices of the validators of a registry that are active at an epoch, in order
unfoldable pub active_in : List Validator → ℕ → List ℕ
active_in validators epoch = indices_from (λ v. is_active_validator v epoch) 0 validators

-- the sum of their effective balances, refused where it does not fit
unfoldable pub balance_in : List Validator → ℕ → Outcome ℕ
balance_in validators epoch = checked_sum_by (λ v. v.effective_balance) (filter (λ v. is_active_validator v epoch) validators)

-- an epoch, the indices that are listed for it, and the sum that is noted for it
pub record Listed : Type 0 where
  pub epoch : ℕ
  pub indices : List ℕ
  pub balance : Option ℕ

-- list and sum are those of the epoch
pub record IsActiveIn (validators : List Validator) (listed : Listed) : Type 0 where
  pub indices : listed.indices ≡ active_in validators listed.epoch
  pub balance : IfSome listed.balance (λ sum. balance_in validators listed.epoch ≡ done sum)
