-- process_deposit (beacon-chain.md, "Deposits"). Signatures are off: a key joins whoever signed for it.
use Rattle.std.specs.Prelude.{ℕ, ◌+◌, List, Option, Some, None, position}
use Rattle.bc_words.specs.Outcome.{Outcome, done, ◌>>=◌, checked_add, checked_push}
use Rattle.bc_words.specs.declared.refusal.Refusal.TheVariants.{DpBranch}
use Rattle.beacon_types.specs.declared.deposit.Deposit.{Deposit}
use Rattle.beacon_types.specs.declared.validator.Validator.{Validator}
use Rattle.beacon_types.specs.Containers.{deposit_contract_tree_depth, deposit_data_codec}
pub use Rattle.beacon_types.specs.Equality.{same_pubkey}
use Rattle.spec_state.specs.declared.plain.PlainState.{PlainState}
use Rattle.spec_blocks.specs.Checks.{check, ◌>>◌}
use Rattle.spec_blocks.specs.IncreaseBalance.{increase_balance}
use Rattle.spec_blocks.specs.IsValidMerkleBranch.{is_valid_merkle_branch}
use Rattle.spec_blocks.specs.GetValidatorFromDeposit.{get_validator_from_deposit}

-- the index of the first validator with a key, if there is one
unfoldable pub index_of_pubkey : List Validator → List ℕ → Option ℕ
index_of_pubkey validators pubkey = position (λ v. same_pubkey pubkey v.pubkey) validators

-- a new key joins the registry
unfoldable pub add_validator : PlainState → Deposit → Outcome PlainState
add_validator state deposit = do
  validators ← checked_push state.preset.validator_registry_limit state.validators (get_validator_from_deposit state deposit)
  balances ← checked_push state.preset.validator_registry_limit state.balances deposit.content.amount
  done (record state { validators = validators; balances = balances })

-- the amount goes to the validator with the key, or to one that joins
unfoldable pub credit_deposit : PlainState → Deposit → Option ℕ → Outcome PlainState
credit_deposit state deposit None = add_validator state deposit
credit_deposit state deposit (Some index) = increase_balance state index deposit.content.amount

-- process_deposit(state, deposit)
unfoldable pub process_deposit : PlainState → Deposit → Outcome PlainState
process_deposit state deposit = do
  -- its branch leads to the deposit root
  check (is_valid_merkle_branch (deposit_data_codec.hash_tree_root deposit.content) deposit.proof (deposit_contract_tree_depth + 1) state.eth1_deposit_index state.eth1_data.deposit_root) DpBranch
  -- deposits come in their order
  next_index ← checked_add state.eth1_deposit_index 1
  let counted = record state { eth1_deposit_index = next_index }
  credit_deposit counted deposit (index_of_pubkey counted.validators deposit.content.pubkey)
