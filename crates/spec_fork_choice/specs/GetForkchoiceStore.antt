-- get_forkchoice_store (fork-choice.md, "get_forkchoice_store"), and the case of it at genesis: there the anchor is the genesis state,
-- and the block that the text takes beside it is the default block with that state's root (beacon-chain.md, "Genesis block").
use Rattle.std.specs.Prelude.{ℕ, List, [], ◌∷◌}
use Rattle.bc_preset.specs.declared.configuration.ConfigValues.{ConfigValues}
use Rattle.beacon_types.specs.declared.checkpoint.Checkpoint.{Checkpoint}
use Rattle.beacon_types.specs.declared.block.BeaconBlock.{BeaconBlock}
use Rattle.beacon_types.specs.Blocks.{block_codec, default_block_body}
use Rattle.spec_state.specs.declared.plain.PlainState.{PlainState}
use Rattle.spec_state.specs.Accessors.{get_current_epoch}
use Rattle.spec_state.specs.States.{state_codec}
use Rattle.spec_state.specs.Genesis.{zero_root}
use Rattle.spec_fork_choice.specs.Store.{Store}
use Rattle.spec_fork_choice.specs.Anchor.{time_of_slot}

-- get_forkchoice_store(anchor_state, anchor_block). The best justified checkpoint is that of the anchor too, there is no boost,
-- and nobody has voted or is equivocating
unfoldable pub get_forkchoice_store : ConfigValues → PlainState → BeaconBlock → Store
get_forkchoice_store config anchor_state anchor_block =
    let anchor_root : List ℕ = block_codec.hash_tree_root anchor_block in
    let checkpoint : Checkpoint = record { epoch = get_current_epoch anchor_state; root = anchor_root } in
    record {
      config = config;
      time = time_of_slot config anchor_state;
      genesis_time = anchor_state.genesis_time;
      justified_checkpoint = checkpoint;
      finalized_checkpoint = checkpoint;
      best_justified_checkpoint = checkpoint;
      proposer_boost_root = zero_root;
      blocks = record { root = anchor_root; block = anchor_block; state = anchor_state } ∷ [];
      latest_messages = [];
      equivocating_indices = [];
    }

-- the genesis block of a genesis state
unfoldable pub genesis_block : PlainState → BeaconBlock
genesis_block genesis = record {
  slot = 0;
  proposer_index = 0;
  parent_root = zero_root;
  state_root = (state_codec genesis.preset).hash_tree_root genesis;
  body = default_block_body;
}

-- the store at genesis
unfoldable pub genesis_store : ConfigValues → PlainState → Store
genesis_store config genesis = get_forkchoice_store config genesis (genesis_block genesis)
