-- What the keeper of a store has of each kept block but the first one: it stands behind its parent by the step of the parent's
-- state (beacon-chain.md, "Beacon chain state transition function").
use Rattle.std.specs.Prelude.{◌≡◌, ℕ, ◌<◌, Some, slice_get}
use Rattle.bc_words.specs.Outcome.{done}
use Rattle.bc_words.specs.Events.{accepted}
use Rattle.bc_preset.specs.declared.configuration.ConfigValues.{ConfigValues}
use Rattle.beacon_types.specs.declared.signed_block.SignedBeaconBlock.{SignedBeaconBlock}
use Rattle.spec_transition.specs.ProcessSlots.{Stepped}
use Rattle.spec_transition.specs.StateTransition.{state_transition}
use Rattle.spec_fork_choice.specs.Store.{KeptBlock, Store, block_of}
use Rattle.spec_fork_choice.specs.OnBlock.{BlockIn, on_block}
use Rattle.state_keeper.specs.Chain.{ChainBlock, Kept}

pub record IsStepOfParent (store : Store) (keeper : Kept ConfigValues SignedBeaconBlock) (number : ℕ) : Type 0 where
  -- the kept block of a number is the keeper's of that number, and so is the state behind it
  pub kept : KeptBlock
  pub kept_there : slice_get store.blocks number ≡ Some kept
  pub held : ChainBlock SignedBeaconBlock
  pub held_there : slice_get keeper.blocks number ≡ Some held
  pub block : held.block.message ≡ kept.block
  pub state : held.state ≡ kept.state
  -- the keeper's parent number is that of the block's parent, which was kept before it
  pub parent : KeptBlock
  pub parent_there : slice_get store.blocks held.parent ≡ Some parent
  pub before : held.parent < number
  pub parent_found : block_of store.blocks kept.block.parent_root ≡ Some parent
  -- the state is the step of its parent's by the block, whatever the signature
  pub step : Stepped
  pub stepped : (block : SignedBeaconBlock) → block.message ≡ kept.block → state_transition parent.state block store.config ≡ done step
  pub state_is : kept.state ≡ step.state
  -- a block that comes again and is accepted leaves the states that this step entered
  pub again : (block : SignedBeaconBlock) (new : Store) (left : BlockIn) → block.message ≡ kept.block → on_block store block ≡ accepted (new, left) → left.entered ≡ step.entered
