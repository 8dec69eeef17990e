-- process_block (beacon-chain.md, "Block processing").
use Rattle.bc_words.specs.Outcome.{Outcome, ◌>>=◌}
use Rattle.bc_preset.specs.declared.configuration.ConfigValues.{ConfigValues}
use Rattle.beacon_types.specs.declared.block.BeaconBlock.{BeaconBlock}
use Rattle.spec_state.specs.declared.plain.PlainState.{PlainState}
use Rattle.spec_state.specs.Accessors.{get_beacon_proposer_index}
use Rattle.spec_blocks.specs.ProcessBlockHeader.{process_block_header}
use Rattle.spec_blocks.specs.ProcessRandao.{process_randao}
use Rattle.spec_blocks.specs.ProcessEth1Data.{process_eth1_data}
use Rattle.spec_blocks.specs.ProcessOperations.{process_operations}

-- process_block(state, block): the proposer is that of the slot, which no step of the block changes, so it is asked for once
unfoldable pub process_block : PlainState → BeaconBlock → ConfigValues → Outcome PlainState
process_block state block config = do
  proposer ← get_beacon_proposer_index state
  with_header ← process_block_header state block proposer
  let with_randao = process_randao with_header block.body
  with_eth1_data ← process_eth1_data with_randao block.body
  process_operations with_eth1_data block.body proposer config
