-- get_ancestor (fork-choice.md, "get_ancestor"): the block at a slot on the chain of a block, or the last one before it.
use Rattle.std.specs.Prelude.{ℕ, zero, suc, List, length, nat_lt, if◌then◌else◌}
use Rattle.spec_fork_choice.specs.Store.{KeptBlock, Store, slot_of, parent_of}

-- the walk from a block to its parents, in at most so many steps, until a block is no later than the slot
unfoldable pub ancestor_within : ℕ → List KeptBlock → List ℕ → ℕ → List ℕ
ancestor_within zero blocks root slot = root
ancestor_within (suc steps) blocks root slot =
    if nat_lt slot (slot_of blocks root) then ancestor_within steps blocks (parent_of blocks root) slot else root

-- get_ancestor(store, root, slot). It is asked of slots that aren't before the first kept block's alone, so that no walk goes below
-- that. Each step goes to another kept block, so as many steps as there are blocks are enough
unfoldable pub get_ancestor : Store → List ℕ → ℕ → List ℕ
get_ancestor store root slot = ancestor_within (length store.blocks) store.blocks root slot
