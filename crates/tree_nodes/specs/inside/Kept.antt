-- What a tree keeps beside its nodes.
use Rattle.std.specs.Prelude.{◌≡◌, ℕ, ◌+◌, ◌*◌, ◌≤◌, ◌^◌, List, length, map}
use Rattle.hash_tree.specs.Merkle.{merkle_root}

-- a tree of a depth, by the smallest that has room for its items, and its root
pub record IsTree {T : Type 0} (root_of : T → List ℕ) (node : ℕ × List T) (low depth len : ℕ) (top : List ℕ) : Type 0 where
  pub node_depth : node.0 ≡ low
  pub order : low ≤ depth
  pub deep : depth ≤ 40
  pub len_is : len ≡ length node.1
  pub room : len ≤ 2 ^ low
  pub least : 2 ^ low ≤ 2 * len + 1
  pub fits : len ≤ 2 ^ depth
  pub top_is : top ≡ merkle_root depth (map root_of node.1)
