-- The branch of a deposit, by the state that it is processed on.
use Rattle.std.specs.Prelude.{◌+◌, Bool}
use Rattle.beacon_types.specs.Containers.{deposit_contract_tree_depth, deposit_data_codec}
use Rattle.beacon_types.specs.declared.deposit.Deposit.{Deposit}
use Rattle.spec_state.specs.declared.plain.PlainState.{PlainState}
use Rattle.spec_blocks.specs.IsValidMerkleBranch.{is_valid_merkle_branch}

-- whether it leads to the state's deposit root
abbrev pub leads_to_root : PlainState → Deposit → Bool
leads_to_root state deposit =
    is_valid_merkle_branch (deposit_data_codec.hash_tree_root deposit.content) deposit.proof (deposit_contract_tree_depth + 1) state.eth1_deposit_index state.eth1_data.deposit_root
