-- get_head (fork-choice.md, "get_head").
use Rattle.std.specs.Prelude.{ℕ, zero, suc, Bool, List, [], ◌∷◌, ◌||◌, ◌&&◌, length, filter, nat_lt, ◌==◌, if◌then◌else◌}
use Rattle.std.specs.Ordering.{is_gt, nat_cmp}
use Rattle.std.specs.Cmp.Lexicographic.{slice_cmp}
use Rattle.spec_fork_choice.specs.Store.{KeptBlock, Store, slot_of}
use Rattle.spec_fork_choice.specs.FilterBlockTree.{is_child, get_filtered_block_tree}
use Rattle.spec_fork_choice.specs.GetLatestAttestingBalance.{get_latest_attesting_balance}

-- whether a root is greater than another one, byte by byte from the first
unfoldable pub is_greater_root : List ℕ → List ℕ → Bool
is_greater_root a b = is_gt (slice_cmp nat_cmp a b)

-- whether the first of two blocks goes before the second one: it weighs more, or as much and has the greater root
unfoldable pub goes_before : Store → KeptBlock → KeptBlock → Bool
goes_before store a b =
    let weight : ℕ = get_latest_attesting_balance store a.root in
    let other : ℕ = get_latest_attesting_balance store b.root in
    nat_lt other weight || ((other == weight) && is_greater_root a.root b.root)

-- max(children, key=lambda root: (get_latest_attesting_balance(store, root), root)), of a block and others
unfoldable pub best_of : Store → KeptBlock → List KeptBlock → KeptBlock
best_of store best [] = best
best_of store best (other ∷ others) = if goes_before store other best then best_of store other others else best_of store best others

-- the children of a block in a tree, in order
unfoldable pub children_of : Store → List KeptBlock → List ℕ → List KeptBlock
children_of store tree root = filter (is_child root (slot_of store.blocks root)) tree

-- the best of the children, or the block itself where there is none
unfoldable pub next_head : Store → List ℕ → List KeptBlock → List ℕ
next_head store root [] = root
next_head store root (child ∷ others) = (best_of store child others).root

-- the walk from a block to the best of its children, in at most so many steps. Behind the last block it stays where it is
unfoldable pub head_within : ℕ → Store → List KeptBlock → List ℕ → List ℕ
head_within zero store tree root = root
head_within (suc steps) store tree root = head_within steps store tree (next_head store root (children_of store tree root))

-- get_head(store). Each step goes to another kept block, so as many steps as there are blocks are enough
unfoldable pub get_head : Store → List ℕ
get_head store = head_within (length store.blocks) store (get_filtered_block_tree store) store.justified_checkpoint.root
