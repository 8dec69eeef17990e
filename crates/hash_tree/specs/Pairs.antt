-- Hashes of pairs of roots (simple-serialize.md, "Merkleization"), many at once.
use Rattle.std.specs.Prelude.{ℕ, List, [], ◌∷◌, ◌++◌, map, slice_index_or}
use Rattle.sha2.specs.Sha256.{sha256}

-- the two roots of a pair, one behind the other
abbrev pub message : List (List ℕ) → List ℕ
message pair = slice_index_or pair 0 [] ++ slice_index_or pair 1 []

-- the hash of each pair
unfoldable pub hashes_of : List (List (List ℕ)) → List (List ℕ)
hashes_of pairs = map (λ pair. sha256 (message pair)) pairs

-- the parents of a layer of nodes, each of which is the hash of two nodes that stand side by side
unfoldable pub parents : List (List ℕ) → List (List ℕ)
parents (left ∷ (right ∷ nodes)) = sha256 (left ++ right) ∷ parents nodes
parents nodes = []
