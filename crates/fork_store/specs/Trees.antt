-- Kept blocks in the order of their acceptance are a tree.
use Rattle.std.specs.Prelude.{◌≡◌, ◌<◌, ◌⊎◌, false, List, [], ◌∷◌, ◌++◌, Some}
use Rattle.beacon_types.specs.declared.block.BeaconBlock.{BeaconBlock}
use Rattle.spec_fork_choice.specs.Store.{KeptBlock, block_of, is_kept}

-- a block's parent is kept, at an earlier slot
pub record HasParent (blocks : List KeptBlock) (block : BeaconBlock) : Type 0 where
  pub parent : KeptBlock
  pub found : block_of blocks block.parent_root ≡ Some parent
  pub earlier : parent.block.slot < block.slot

-- a block behind others has a root of its own, and a parent among them unless it is the first
pub record Follows (before : List KeptBlock) (kept : KeptBlock) : Type 0 where
  pub fresh : is_kept before kept.root ≡ false
  pub parent : (before ≡ []) ⊎ HasParent before kept.block

-- each of the later blocks follows those before it
unfoldable pub IsTreeBehind : List KeptBlock → List KeptBlock → Type 0
IsTreeBehind before [] = Unit {0}
IsTreeBehind before (kept ∷ later) = Follows before kept × IsTreeBehind (before ++ kept ∷ []) later

-- all blocks do
abbrev pub IsTree : List KeptBlock → Type 0
IsTree blocks = IsTreeBehind [] blocks
