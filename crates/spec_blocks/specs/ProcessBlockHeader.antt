-- process_block_header (beacon-chain.md, "Block header").
use Rattle.std.specs.Prelude.{ℕ, not, ◌==◌}
use Rattle.bc_words.specs.Outcome.{Outcome, done, ◌>>=◌}
use Rattle.bc_words.specs.declared.refusal.Refusal.TheVariants.{WrongProposer, ProposerSlashed}
use Rattle.beacon_types.specs.declared.block_header.BeaconBlockHeader.{BeaconBlockHeader}
use Rattle.beacon_types.specs.declared.block.BeaconBlock.{BeaconBlock}
use Rattle.beacon_types.specs.Blocks.{block_body_codec}
use Rattle.spec_state.specs.declared.plain.PlainState.{PlainState}
use Rattle.spec_state.specs.Genesis.{zero_root}
use Rattle.spec_blocks.specs.Checks.{check, item_at, ◌>>◌}

-- the header of the block, whose state root is zero until the next slot
abbrev pub header_of : BeaconBlock → BeaconBlockHeader
header_of block = record {
  slot = block.slot;
  proposer_index = block.proposer_index;
  parent_root = block.parent_root;
  state_root = zero_root;
  body_root = block_body_codec.hash_tree_root block.body;
}

-- process_block_header(state, block), where proposer is get_beacon_proposer_index(state). The published checks of the slot
-- and of the parent's root hold of every block that the state transition takes
unfoldable pub process_block_header : PlainState → BeaconBlock → ℕ → Outcome PlainState
process_block_header state block proposer = do
  -- the proposer's index is the right one
  check (block.proposer_index == proposer) WrongProposer
  -- the block is the latest one
  let with_header = record state { latest_block_header = header_of block }
  -- the proposer is not slashed
  validator ← item_at with_header.validators block.proposer_index
  check (not validator.slashed) ProposerSlashed
  done with_header
