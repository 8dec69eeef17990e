-- Nodes in order of arrival are a tree, and what is on the chain of a node.
use Rattle.std.specs.Prelude.{◌≡◌, ℕ, zero, suc, ◌<◌, Bool, false, List, Some, ◌||◌, ◌&&◌, ◌==◌, leb}
use Rattle.std.specs.Option.{option_map_or}
use Rattle.block_array.specs.declared.node.Node.{Node}
use Rattle.block_array.specs.PlainArray.{slot_at, parent_at}

-- a node comes before another one, and is of an earlier slot
pub record IsEarlier (nodes : List Node) (a b : ℕ) : Type 0 where
  pub number : a < b
  pub slot : slot_at nodes a < slot_at nodes b

-- so does each node's parent
unfoldable pub IsTree : List Node → Type 0
IsTree nodes = (number parent : ℕ) → parent_at nodes number ≡ Some parent → IsEarlier nodes parent number

-- whether a walk from a node to its parents, that goes on from nodes from a lowest one on alone, comes by another one, in
-- at most so many steps
unfoldable pub reaches : ℕ → List Node → ℕ → ℕ → ℕ → Bool
reaches zero nodes low number other = number == other
reaches (suc steps) nodes low number other =
    (number == other) || (leb low number && option_map_or (λ parent. reaches steps nodes low parent other) (parent_at nodes number) false)
