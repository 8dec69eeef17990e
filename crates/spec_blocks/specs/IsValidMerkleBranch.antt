-- is_valid_merkle_branch (beacon-chain.md, "is_valid_merkle_branch").
use Rattle.std.specs.Prelude.{ℕ, zero, suc, ◌/◌, ◌%◌, ◌^◌, List, [], ◌++◌, Bool, ◌==◌, if◌then◌else◌, slice_index_or}
use Rattle.hash_tree.specs.Merkle.{hash}
use Rattle.beacon_types.specs.Equality.{same_root}

-- the hash of a node and its sibling, which stands left of it where the node's place in its level is odd
unfoldable pub hash_with_sibling : List ℕ → List ℕ → ℕ → List ℕ
hash_with_sibling value sibling place = if place % 2 == 1 then hash (sibling ++ value) else hash (value ++ sibling)

-- the node that lies so many levels above the leaf with an index
unfoldable pub node_above : List ℕ → List (List ℕ) → ℕ → ℕ → List ℕ
node_above leaf branch zero index = leaf
node_above leaf branch (suc level) index = hash_with_sibling (node_above leaf branch level index) (slice_index_or branch level []) (index / 2 ^ level)

-- is_valid_merkle_branch(leaf, branch, depth, index, root)
unfoldable pub is_valid_merkle_branch : List ℕ → List (List ℕ) → ℕ → ℕ → List ℕ → Bool
is_valid_merkle_branch leaf branch depth index root = same_root (node_above leaf branch depth index) root
