-- Roots that are no name for one block alone. The published text takes a root for its block; here a block that would be
-- accepted is compared, and none of two blocks with one root is silently the other. Signatures don't count.
use Rattle.std.specs.Prelude.{ℕ, Bool, not, List, Option, Some, None, is_some, if◌then◌else◌}
use Rattle.std.specs.List.{position_or_len}
use Rattle.std.specs.Option.{option_map, option_map_or}
use Rattle.std.specs.Prelude.{false}
use Rattle.bc_words.specs.declared.store_stop.ClashKind.{ClashKind}
use Rattle.bc_words.specs.declared.store_stop.ClashKind.TheVariants.{ZeroBlock, ZeroState, Kept}
use Rattle.beacon_types.specs.Equality.{same_root}
use Rattle.beacon_types.specs.declared.block.BeaconBlock.{BeaconBlock}
use Rattle.spec_state.specs.Genesis.{zero_root}
use Rattle.spec_fork_choice.specs.Store.{KeptBlock, block_of}
use Rattle.spec_fork_choice.specs.SameBlock.{same_block}

-- whether a kept block is there and is another one
unfoldable pub is_another : Option BeaconBlock → BeaconBlock → Bool
is_another kept block = option_map_or (λ other. not (same_block other block)) kept false

-- how a block with these roots clashes with the kept block of its root, whose place among the kept ones this is, if it does: its
-- root is zero, or else its state root is, or else the kept block is another one
unfoldable pub clash_with : Option BeaconBlock → ℕ → List ℕ → List ℕ → BeaconBlock → Option ClashKind
clash_with kept place root state_root block =
    if same_root root zero_root then Some ZeroBlock
    else if same_root state_root zero_root then Some ZeroState
    else if is_another kept block then Some (Kept place)
    else None

-- whether it does
unfoldable pub clashes : List ℕ → List ℕ → Option BeaconBlock → BeaconBlock → Bool
clashes root state_root kept block = is_some (clash_with kept 0 root state_root block)

-- the place of a root's block among the kept ones
unfoldable pub place_of : List KeptBlock → List ℕ → ℕ
place_of blocks root = position_or_len (λ kept. same_root kept.root root) blocks

-- the place of the kept block that has a block's root and another content, if there is one
unfoldable pub clash_among : List KeptBlock → List ℕ → BeaconBlock → Option ℕ
clash_among blocks root block =
    if is_another (option_map (λ kept. kept.block) (block_of blocks root)) block then Some (place_of blocks root) else None

-- how a block with these roots clashes with the kept ones, if it does
unfoldable pub clash_of : List KeptBlock → List ℕ → List ℕ → BeaconBlock → Option ClashKind
clash_of blocks root state_root block = clash_with (option_map (λ kept. kept.block) (block_of blocks root)) (place_of blocks root) root state_root block
