-- The states that the step by a block enters, as they are told where that step isn't made once more.
use Rattle.std.specs.Prelude.{◌≡◌, ℕ, ◌<◌, List, [], Option, Some, None, slice_get}
use Rattle.bc_words.specs.Outcome.{Outcome, done, refused, limited}
use Rattle.bc_preset.specs.declared.configuration.ConfigValues.{ConfigValues}
use Rattle.beacon_types.specs.declared.block.BeaconBlock.{BeaconBlock}
use Rattle.beacon_types.specs.declared.signed_block.SignedBeaconBlock.{SignedBeaconBlock}
use Rattle.spec_state.specs.declared.plain.PlainState.{PlainState}
use Rattle.spec_transition.specs.ProcessSlots.{Stepped}
use Rattle.spec_transition.specs.StateTransition.{state_transition}
use Rattle.spec_fork_choice.specs.Store.{KeptBlock, Store, block_of}
use Rattle.fork_store.specs.declared.made_step.Way.{Way}
use Rattle.fork_store.specs.declared.made_step.Way.TheVariants.{Shown, Again}

-- those of a step, and none where it isn't done
unfoldable pub entered_by_step : Outcome Stepped → List PlainState
entered_by_step (done step) = step.entered
entered_by_step (refused why) = []
entered_by_step (limited bound) = []

-- those of the step by a block from the state behind a kept parent
unfoldable pub entered_from : ConfigValues → SignedBeaconBlock → Option KeptBlock → List PlainState
entered_from config block (Some parent) = entered_by_step (state_transition parent.state block config)
entered_from config block None = []

-- and from the state that a store keeps behind the block's parent
unfoldable pub entered_behind : Store → SignedBeaconBlock → List PlainState
entered_behind store block = entered_from store.config block (block_of store.blocks block.message.parent_root)

-- as they are told
unfoldable pub told : Way → List PlainState
told (Shown states) = states
told (Again store block) = entered_behind store.value block.value

-- the kept block of a number, but the first one, is a block
pub record IsKeptAgain (blocks : List KeptBlock) (number : ℕ) (block : BeaconBlock) : Type 0 where
  pub some : 0 < number
  pub kept : KeptBlock
  pub there : slice_get blocks number ≡ Some kept
  pub same : kept.block ≡ block
