-- The states that a store keeps behind its blocks, and a step from one of them (beacon-chain.md, "Beacon chain state transition
-- function").
use Rattle.std.specs.Prelude.{◌≡◌, ℕ, List, Some}
use Rattle.bc_words.specs.Outcome.{done}
use Rattle.beacon_types.specs.declared.block.BeaconBlock.{BeaconBlock}
use Rattle.beacon_types.specs.declared.signed_block.SignedBeaconBlock.{SignedBeaconBlock}
use Rattle.spec_state.specs.declared.plain.PlainState.{PlainState}
use Rattle.spec_state.specs.Soundness.{IsSound}
use Rattle.spec_transition.specs.ProcessSlots.{Stepped}
use Rattle.spec_transition.specs.StateTransition.{state_transition}
use Rattle.spec_fork_choice.specs.Store.{KeptBlock, Store, block_of}

-- a store keeps a state as the one behind the block of a root
pub record KeepsState (store : Store) (root : List ℕ) (state : PlainState) : Type 0 where
  pub kept : KeptBlock
  pub found : block_of store.blocks root ≡ Some kept
  pub same : kept.state ≡ state

-- a store has the configuration of another one, and keeps each state that this one keeps
pub record KeepsStates (old new : Store) : Type 0 where
  pub config : new.config ≡ old.config
  pub states : (root : List ℕ) (state : PlainState) → KeepsState old root state → KeepsState new root state

-- a step is the one by a block, whatever its signature, from the state that is kept behind its parent
pub record IsStepOfKept (store : Store) (block : BeaconBlock) (step : Stepped) : Type 0 where
  pub parent : PlainState
  pub kept : KeepsState store block.parent_root parent
  pub steps : (signed : SignedBeaconBlock) → signed.message ≡ block → state_transition parent signed store.config ≡ done step
  pub sound : IsSound step.state
  pub slot : step.state.slot ≡ block.slot
