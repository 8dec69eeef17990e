-- A layer of a tree: nodes of one depth, side by side.
use Rattle.std.specs.Prelude.{◌≡◌, ℕ, suc, ◌<◌, ◌≤◌, ◌^◌, List, [], ◌∷◌, ◌++◌, length, map}
use Rattle.hash_tree.specs.Merkle.{merkle_root}
use Rattle.tree_nodes.specs.inside.Nodes.{AreHalves}

-- the leaf of each item
unfoldable pub leaves : {T : Type 0} → List T → List (ℕ × List T)
leaves [] = []
leaves (item ∷ items) = (0, item ∷ []) ∷ leaves items

-- the items of the nodes
unfoldable pub held : {T : Type 0} → List (ℕ × List T) → List T
held [] = []
held (node ∷ nodes) = node.1 ++ held nodes

-- nodes of this depth, each of which is full where one behind it has items
abbrev pub IsLayer : {T : Type 0} → ℕ → List (ℕ × List T) → Type 0
IsLayer depth [] = Unit {0}
IsLayer depth (node ∷ nodes) =
    (node.0 ≡ depth) × (length node.1 ≤ 2 ^ depth) × (0 < length (held nodes) → length node.1 ≡ 2 ^ depth) × IsLayer depth nodes

-- the roots of the nodes
unfoldable pub node_roots : {T : Type 0} → (T → List ℕ) → List (ℕ × List T) → List (List ℕ)
node_roots root_of nodes = map (λ node. merkle_root node.0 (map root_of node.1)) nodes

-- the trees over two nodes each
unfoldable pub paired : {T : Type 0} → List (ℕ × List T) → List (ℕ × List T)
paired (left ∷ (right ∷ nodes)) = (suc left.0, left.1 ++ right.1) ∷ paired nodes
paired nodes = []

-- each two of the nodes are halves of a tree
abbrev pub ArePaired : {T : Type 0} → List (ℕ × List T) → Type 0
ArePaired (left ∷ (right ∷ nodes)) = AreHalves left right × ArePaired nodes
ArePaired nodes = Unit {0}
