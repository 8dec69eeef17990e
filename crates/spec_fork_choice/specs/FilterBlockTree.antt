-- filter_block_tree and get_filtered_block_tree (fork-choice.md, "filter_block_tree" and "get_filtered_block_tree"): the
-- blocks from which a leaf can be reached whose state agrees with the store.
use Rattle.std.specs.Prelude.{ℕ, Bool, List, [], ◌∷◌, ◌||◌, ◌&&◌, ◌==◌, nat_lt, if◌then◌else◌}
use Rattle.std.specs.List.{list_any}
use Rattle.beacon_types.specs.Equality.{same_root, same_checkpoint}
use Rattle.spec_fork_choice.specs.Store.{KeptBlock, Store}

-- Whether a block is a child of the block of this root and slot: that is its parent, and stands before it. So the first kept block
-- is nobody's child, whatever root it names as its parent's
unfoldable pub is_child : List ℕ → ℕ → KeptBlock → Bool
is_child root slot other = same_root other.block.parent_root root && nat_lt slot other.block.slot

-- whether a block has a child among others
unfoldable pub has_child : KeptBlock → List KeptBlock → Bool
has_child kept others = list_any (is_child kept.root kept.block.slot) others

-- whether the state behind a block agrees with the store on the justified and on the finalized checkpoint
unfoldable pub agrees : Store → KeptBlock → Bool
agrees store kept =
    ((store.justified_checkpoint.epoch == 0) || same_checkpoint kept.state.current_justified_checkpoint store.justified_checkpoint)
    && ((store.finalized_checkpoint.epoch == 0) || same_checkpoint kept.state.finalized_checkpoint store.finalized_checkpoint)

-- whether a block is viable, where these were accepted behind it and those of them are viable: a block with children where
-- a child is, and one without where its own state agrees
unfoldable pub is_viable : Store → KeptBlock → List KeptBlock → List KeptBlock → Bool
is_viable store kept later viable = if has_child kept later then has_child kept viable else agrees store kept

-- a block in front of the viable ones, where it is viable too
unfoldable pub with_viable : Store → KeptBlock → List KeptBlock → List KeptBlock → List KeptBlock
with_viable store kept later viable = if is_viable store kept later viable then kept ∷ viable else viable

-- filter_block_tree: the viable ones of blocks in the order of their acceptance, from the last to the first. A block's
-- children were accepted behind it
unfoldable pub filter_block_tree : Store → List KeptBlock → List KeptBlock
filter_block_tree store [] = []
filter_block_tree store (kept ∷ later) = with_viable store kept later (filter_block_tree store later)

-- get_filtered_block_tree(store): of all blocks, and not only of those behind the justified one, from which get_head goes
unfoldable pub get_filtered_block_tree : Store → List KeptBlock
get_filtered_block_tree store = filter_block_tree store store.blocks
