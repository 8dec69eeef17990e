-- get_ancestor (fork-choice.md, "get_ancestor"): the node at a slot on the chain of a node, or the last one before it.
use Rattle.std.specs.Prelude.{ℕ, zero, suc, List, length, nat_lt, if◌then◌else◌}
use Rattle.std.specs.Option.{unwrap_or}
use Rattle.block_array.specs.declared.node.Node.{Node}
use Rattle.block_array.specs.PlainArray.{slot_at, parent_at}

-- a node's parent. The first node stands for its own
unfoldable pub parent_or_self : List Node → ℕ → ℕ
parent_or_self nodes number = unwrap_or (parent_at nodes number) number

-- the walk from a node to its parents, in at most so many steps, until a node is no later than the slot
unfoldable pub ancestor_within : ℕ → List Node → ℕ → ℕ → ℕ
ancestor_within zero nodes number slot = number
ancestor_within (suc steps) nodes number slot =
    if nat_lt slot (slot_at nodes number) then ancestor_within steps nodes (parent_or_self nodes number) slot else number

-- get_ancestor(store, root, slot). Each step goes to an earlier node, so as many steps as there are nodes are enough
unfoldable pub get_ancestor : List Node → ℕ → ℕ → ℕ
get_ancestor nodes number slot = ancestor_within (length nodes) nodes number slot
