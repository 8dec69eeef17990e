-- filter_block_tree and get_filtered_block_tree (fork-choice.md, "filter_block_tree" and "get_filtered_block_tree"): the
-- nodes from which a leaf can be reached whose state agrees with the checkpoints.
use Rattle.std.specs.Prelude.{ℕ, suc, Bool, false, List, [], ◌∷◌, ◌||◌, ◌&&◌, ◌==◌, if◌then◌else◌}
use Rattle.std.specs.List.{list_any}
use Rattle.std.specs.Option.{option_map_or}
use Rattle.beacon_types.specs.Equality.{same_checkpoint}
use Rattle.block_array.specs.declared.node.Node.{Node}
use Rattle.block_array.specs.PlainArray.{PlainArray, parent_at}

-- whether a node has this one as its parent; and whether the node of a number has
unfoldable pub is_child : ℕ → Node → Bool
is_child number other = option_map_or (λ parent. parent == number) other.parent false

unfoldable pub is_child_at : List Node → ℕ → ℕ → Bool
is_child_at nodes number child = option_map_or (λ parent. parent == number) (parent_at nodes child) false

-- whether the state behind a node agrees on the justified and on the finalized checkpoint
unfoldable pub agrees : PlainArray → Node → Bool
agrees array node =
    ((array.justified_checkpoint.epoch == 0) || same_checkpoint node.facts.justified array.justified_checkpoint)
    && ((array.finalized_checkpoint.epoch == 0) || same_checkpoint node.facts.finalized array.finalized_checkpoint)

-- whether the node of a number is viable, where these came behind it and those of them are viable: a node with children
-- where a child is, and one without where its own state agrees
unfoldable pub is_viable : PlainArray → ℕ → Node → List Node → List ℕ → Bool
is_viable array number node later viable =
    if list_any (is_child number) later then list_any (is_child_at array.nodes number) viable else agrees array node

-- a node in front of the viable ones, where it is viable too
unfoldable pub with_viable : PlainArray → ℕ → Node → List Node → List ℕ → List ℕ
with_viable array number node later viable = if is_viable array number node later viable then number ∷ viable else viable

-- filter_block_tree: the viable ones of nodes in the order of their arrival, the first of which has this number, from the
-- last to the first. A node's children came behind it
unfoldable pub filter_block_tree : PlainArray → ℕ → List Node → List ℕ
filter_block_tree array number [] = []
filter_block_tree array number (node ∷ later) = with_viable array number node later (filter_block_tree array (suc number) later)

-- get_filtered_block_tree(store): of all nodes
unfoldable pub get_filtered_block_tree : PlainArray → List ℕ
get_filtered_block_tree array = filter_block_tree array 0 array.nodes
