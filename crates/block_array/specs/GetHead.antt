-- get_head (fork-choice.md, "get_head").
use Rattle.std.specs.Prelude.{ℕ, zero, suc, Bool, List, [], ◌∷◌, ◌||◌, ◌&&◌, length, filter, nat_lt, ◌==◌, if◌then◌else◌}
use Rattle.std.specs.Ordering.{is_gt, nat_cmp}
use Rattle.std.specs.Cmp.Lexicographic.{slice_cmp}
use Rattle.block_array.specs.PlainArray.{PlainArray, root_at}
use Rattle.block_array.specs.FilterBlockTree.{is_child_at, get_filtered_block_tree}
use Rattle.block_array.specs.GetLatestAttestingBalance.{get_latest_attesting_balance}

-- whether a root is greater than another one, byte by byte from the first
unfoldable pub is_greater_root : List ℕ → List ℕ → Bool
is_greater_root a b = is_gt (slice_cmp nat_cmp a b)

-- whether the first of two nodes goes before the second one: it weighs more, or as much and has the greater root
unfoldable pub goes_before : PlainArray → ℕ → ℕ → Bool
goes_before array a b =
    let weight : ℕ = get_latest_attesting_balance array a in
    let other : ℕ = get_latest_attesting_balance array b in
    nat_lt other weight || ((other == weight) && is_greater_root (root_at array.nodes a) (root_at array.nodes b))

-- max(children, key=lambda root: (get_latest_attesting_balance(store, root), root)), of a node and others
unfoldable pub best_of : PlainArray → ℕ → List ℕ → ℕ
best_of array best [] = best
best_of array best (other ∷ others) = if goes_before array other best then best_of array other others else best_of array best others

-- the nodes of a tree whose parent is this one, in order
unfoldable pub children_of : PlainArray → List ℕ → ℕ → List ℕ
children_of array tree number = filter (is_child_at array.nodes number) tree

-- the best of the children, or the node itself where there is none
unfoldable pub next_head : PlainArray → ℕ → List ℕ → ℕ
next_head array number [] = number
next_head array number (child ∷ others) = best_of array child others

-- the walk from a node to the best of its children, in at most so many steps. Behind the last node it stays where it is
unfoldable pub head_within : ℕ → PlainArray → List ℕ → ℕ → ℕ
head_within zero array tree number = number
head_within (suc steps) array tree number = head_within steps array tree (next_head array number (children_of array tree number))

-- get_head(store). Each step goes to a later node, so as many steps as there are nodes are enough
unfoldable pub get_head : PlainArray → ℕ
get_head array = head_within (length array.nodes) array (get_filtered_block_tree array) array.justified_node
