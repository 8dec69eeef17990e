-- What a node of a tree is seen as, and what holds of it.
use Rattle.std.specs.Prelude.{◌≡◌, ℕ, suc, ◌<◌, ◌≤◌, ◌^◌, List, [], ◌∷◌, ◌++◌, length, map, Option, Some, None, Result, Ok, Err}
use Rattle.std.specs.Borrow.{Bor}
use Rattle.hash_tree.specs.Merkle.{hash, merkle_root}
use Rattle.tree_nodes.specs.declared.node.Kind.{Kind}
use Rattle.tree_nodes.specs.declared.node.Kind.TheVariants.{Absent, Item, Pair, Broad}

-- the depth, and the items in order
abbrev pub seen : {T : Type 0} → Kind T → ℕ × List T
seen (Absent depth) = (depth, [])
seen (Item leaf) = (0, leaf.value.item ∷ [])
seen (Pair pair) = (suc pair.value.left.0, pair.value.left.1 ++ pair.value.right.1)
seen (Broad broad) = (suc broad.value.left.0, broad.value.left.1 ++ broad.value.right.1)

-- two trees of one depth with room for their items, where the left is full if the right has any
pub record AreHalves {T : Type 0} (left right : ℕ × List T) : Type 0 where
  pub same_depth : left.0 ≡ right.0
  pub left_fits : length left.1 ≤ 2 ^ left.0
  pub right_fits : length right.1 ≤ 2 ^ right.0
  pub left_first : 0 < length right.1 → length left.1 ≡ 2 ^ left.0

-- and which are the halves of a tree
pub record HalvesOf {T : Type 0} (tree left right : ℕ × List T) : Type 0 where
  pub halves : AreHalves left right
  pub whole : tree ≡ (suc left.0, left.1 ++ right.1)

-- a tree's halves, or none where it has no more than one item, and has none but for a leaf
abbrev pub Splits : {T : Type 0} → ℕ × List T → Option (Bor (ℕ × List T) × Bor (ℕ × List T)) → Type 0
Splits tree (Some halves) = HalvesOf tree halves.0.now halves.1.now
Splits tree None = (length tree.1 ≤ 1) × (0 < tree.0 → tree.1 ≡ [])

-- what holds of two values, where both were made
abbrev pub AreMade : {A B E : Type 0} → (A → B → Type 0) → Result A E → Result B E → Type 0
AreMade P (Ok left) (Ok right) = P left right
AreMade P (Ok left) (Err e) = Unit {0}
AreMade P (Err e) right = Unit {0}

-- the tree over two halves, both of which were made
abbrev pub IsPairOf : {T E : Type 0} → Result (ℕ × List T) E → Result (ℕ × List T) E → ℕ × List T → Type 0
IsPairOf (Ok left) (Ok right) tree = tree ≡ (suc left.0, left.1 ++ right.1)
IsPairOf (Ok left) (Err e) tree = ⊥
IsPairOf (Err e) right tree = ⊥

-- what is kept is the root
abbrev pub IsNode : {T : Type 0} → (T → List ℕ) → Kind T → Type 0
IsNode root_of (Absent depth) = depth ≤ 40
IsNode root_of (Item leaf) = leaf.value.root ≡ root_of leaf.value.item
IsNode root_of (Pair pair) =
    AreHalves pair.value.left pair.value.right
    × (pair.value.root ≡ hash (merkle_root pair.value.left.0 (map root_of pair.value.left.1) ++ merkle_root pair.value.right.0 (map root_of pair.value.right.1)))
IsNode root_of (Broad broad) =
    AreHalves broad.value.left broad.value.right
    × (broad.value.root ≡ hash (merkle_root broad.value.left.0 (map root_of broad.value.left.1) ++ merkle_root broad.value.right.0 (map root_of broad.value.right.1)))
    × (map (λ leaf. leaf.value.item) broad.value.leaves.items ≡ broad.value.left.1 ++ broad.value.right.1)
