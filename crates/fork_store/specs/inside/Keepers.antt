-- The state behind a kept block, and the step from it by another one.
use Rattle.std.specs.Prelude.{◌≡◌, ℕ, List, Some}
use Rattle.bc_words.specs.Outcome.{done}
use Rattle.bc_preset.specs.declared.configuration.ConfigValues.{ConfigValues}
use Rattle.beacon_types.specs.declared.signed_block.SignedBeaconBlock.{SignedBeaconBlock}
use Rattle.spec_state.specs.declared.plain.PlainState.{PlainState}
use Rattle.spec_fork_choice.specs.Store.{KeptBlock, block_of}
use Rattle.fork_store.specs.ChainStep.{CanStep, chain_step}
use Rattle.fork_store.specs.Stores.{IsKept}

-- a state is the one behind the kept block of a root
pub record IsStateBehind (blocks : List KeptBlock) (root : List ℕ) (state : PlainState) : Type 0 where
  pub kept : KeptBlock
  pub found : block_of blocks root ≡ Some kept
  pub same : kept.state ≡ state
  pub good : IsKept kept

-- a state is the one that the step by a block gives from that of its kept parent
pub record IsStepOn (config : ConfigValues) (blocks : List KeptBlock) (block : SignedBeaconBlock) (state : PlainState) : Type 0 where
  pub parent : KeptBlock
  pub found : block_of blocks block.message.parent_root ≡ Some parent
  pub can : CanStep config parent.state block
  pub step : chain_step config parent.state block ≡ done state
