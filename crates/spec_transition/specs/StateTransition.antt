-- state_transition (beacon-chain.md, "Beacon chain state transition function"). Signatures are off.
use Rattle.std.specs.Prelude.{◌≡◌, ℕ, ◌<◌}
use Rattle.bc_words.specs.Outcome.{Outcome, done, ◌>>=◌}
use Rattle.bc_words.specs.declared.refusal.Refusal.TheVariants.{StateRoot}
use Rattle.bc_preset.specs.declared.configuration.ConfigValues.{ConfigValues}
use Rattle.beacon_types.specs.Equality.{same_root}
use Rattle.beacon_types.specs.Containers.{block_header_codec}
use Rattle.beacon_types.specs.declared.block.BeaconBlock.{BeaconBlock}
use Rattle.beacon_types.specs.declared.signed_block.SignedBeaconBlock.{SignedBeaconBlock}
use Rattle.beacon_types.specs.Blocks.{block_codec}
use Rattle.spec_state.specs.declared.plain.PlainState.{PlainState}
use Rattle.spec_state.specs.States.{state_codec}
use Rattle.spec_state.specs.Genesis.{header_root_of}
use Rattle.spec_blocks.specs.Checks.{check, ◌>>◌}
use Rattle.spec_blocks.specs.ProcessBlock.{process_block}
use Rattle.spec_transition.specs.ProcessSlots.{Stepped, process_slots}

-- state_transition(state, signed_block), with the states on which epoch processing was entered
unfoldable pub state_transition : PlainState → SignedBeaconBlock → ConfigValues → Outcome Stepped
state_transition state signed_block config = do
  let block = signed_block.message
  -- the slots up to the block's, with the block's among them
  at_slot ← process_slots state block.slot config
  -- the block
  processed ← process_block at_slot.state block config
  -- whose state root is the state's
  check (same_root block.state_root ((state_codec processed.preset).hash_tree_root processed)) StateRoot
  done (record at_slot { state = processed })

-- What the published checks of a block's header ask, which the definition leaves out since they hold of every block that it
-- is meant for: behind the slots from state s, whose header root is the block's parent root, state t is at the block's slot,
-- that is behind the latest block's slot, and the latest block's root is the parent root
pub record IsNext (s t : PlainState) (slot : ℕ) : Type 0 where
  pub at : t.slot ≡ slot
  pub later : t.latest_block_header.slot < slot
  pub parent : block_header_codec.hash_tree_root t.latest_block_header ≡ header_root_of s

-- The block is the latest one of a state: the header root, by which a next block names its parent, is the block's root
unfoldable pub IsLatest : PlainState → BeaconBlock → Type 0
IsLatest state block = header_root_of state ≡ block_codec.hash_tree_root block
