-- Branches of a Merkle tree (beacon-chain.md, "is_valid_merkle_branch" and "Deposit"), and the list of the contract's deposits
-- with its tree ("initialize_beacon_state_from_eth1": List[DepositData, 2 ** DEPOSIT_CONTRACT_TREE_DEPTH]).
use Rattle.std.specs.Prelude.{ℕ, zero, suc, ◌+◌, ◌-◌, ◌*◌, ◌/◌, ◌%◌, ◌^◌, List, [], ◌∷◌, ◌++◌, length, take, drop, map, ◌==◌, if◌then◌else◌}
use Rattle.hash_tree.specs.Merkle.{merkle_root, length_chunk}
use Rattle.ssz_codec.specs.Codec.{Codec}
use Rattle.ssz_codec.specs.Lists.{list_codec}
use Rattle.beacon_types.specs.declared.deposit_data.DepositData.{DepositData}
use Rattle.beacon_types.specs.Containers.{deposit_contract_tree_depth, deposit_data_codec}

-- the root of the subtree of this depth at a place of its level, where places count from 0
unfoldable pub subtree_root : ℕ → ℕ → List (List ℕ) → List ℕ
subtree_root depth place chunks = merkle_root depth (take (2 ^ depth) (drop (place * 2 ^ depth) chunks))

-- the place beside a place, under the same parent
unfoldable pub sibling_of : ℕ → ℕ
sibling_of place = if place % 2 == 1 then place - 1 else place + 1

-- the nodes beside the way from a leaf up, count of them, the first of which is on this level
unfoldable pub siblings : ℕ → ℕ → List (List ℕ) → ℕ → List (List ℕ)
siblings zero level chunks index = []
siblings (suc count) level chunks index = subtree_root level (sibling_of (index / 2 ^ level)) chunks ∷ siblings count (level + 1) chunks index

-- List[DepositData, 2 ** DEPOSIT_CONTRACT_TREE_DEPTH]
abbrev pub deposits_codec : Codec (List DepositData)
deposits_codec = list_codec deposit_data_codec (2 ^ deposit_contract_tree_depth)

-- the leaves of the deposits' tree
abbrev pub deposit_leaves : List DepositData → List (List ℕ)
deposit_leaves deposits = map deposit_data_codec.hash_tree_root deposits

-- the branch of a leaf: the nodes beside its way up, and the number of leaves, which is mixed in
unfoldable pub branch_of : List (List ℕ) → ℕ → List (List ℕ)
branch_of leaves index = siblings deposit_contract_tree_depth 0 leaves index ++ length_chunk (length leaves) ∷ []
