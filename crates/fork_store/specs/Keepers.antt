-- The keeper of a store's states: its blocks are the kept ones, in order.
use Rattle.std.specs.Prelude.{◌≡◌, ◌<◌, ◌^◌, List, length, map}
use Rattle.bc_preset.specs.declared.configuration.ConfigValues.{ConfigValues}
use Rattle.beacon_types.specs.Blocks.{block_codec}
use Rattle.beacon_types.specs.declared.signed_block.SignedBeaconBlock.{SignedBeaconBlock}
use Rattle.spec_fork_choice.specs.Store.{KeptBlock, Store}
use Rattle.state_keeper.specs.Chain.{ChainBlock, Kept}

-- a block of the keeper as a kept one, which has its own root
abbrev pub kept_block : ChainBlock SignedBeaconBlock → KeptBlock
kept_block b = record { root = block_codec.hash_tree_root b.block.message; block = b.block.message; state = b.state }

unfoldable pub kept_blocks : List (ChainBlock SignedBeaconBlock) → List KeptBlock
kept_blocks blocks = map kept_block blocks

-- the keeper of a store takes the steps of its configuration, and its blocks are the kept ones with their states, fewer than 2^32
pub record IsKeeperOf (store : Store) (keeper : Kept ConfigValues SignedBeaconBlock) : Type 0 where
  pub stepper : keeper.stepper ≡ store.config
  pub blocks : kept_blocks keeper.blocks ≡ store.blocks
  pub few : length store.blocks < 2 ^ 32
