-- A store follows a history: it keeps genesis and the blocks of the history, each as it was first accepted.
use Rattle.std.specs.Prelude.{◌≡◌, ℕ, List, Some, None}
use Rattle.bc_preset.specs.declared.configuration.ConfigValues.{ConfigValues}
use Rattle.spec_state.specs.declared.plain.PlainState.{PlainState}
use Rattle.spec_fork_choice.specs.Store.{KeptBlock, Store, block_of}
use Rattle.spec_fork_choice.specs.OnBlock.{BlockIn}
use Rattle.spec_forensics.specs.Histories.{AcceptedBlock, IsStepOn, IsHistory}
use Rattle.spec_forensics.specs.Clash.{first_accepted, clash_among}
use Rattle.safety_law.specs.Histories.{Begins, HaveOneContent, NoneIsGenesis}
use Rattle.safety_law.specs.Finals.{IsFinalOf}

pub record Follows (config : ConfigValues) (genesis : PlainState) (history : List AcceptedBlock) (store : Store) : Type 0 where
  pub config_is : store.config ≡ config
  pub blocks : store.blocks ≡ first_accepted genesis history
  pub begins : Begins genesis
  pub is_history : IsHistory config genesis history
  pub content : HaveOneContent history
  pub others : NoneIsGenesis genesis history
  pub finalized : IsFinalOf genesis history store.finalized_checkpoint

-- What an accepted block event added to a history, behind which the store is this one: the store keeps the block, which is a step of
-- the history, and whose root is no name for another block of it
pub record IsAdded (config : ConfigValues) (genesis : PlainState) (history : List AcceptedBlock) (store : Store) (event : ℕ) (given : BlockIn) : Type 0 where
  pub kept : KeptBlock
  pub found : block_of store.blocks given.root ≡ Some kept
  pub step : IsStepOn config genesis history (record { event = event; root = given.root; block = kept.block; state = kept.state; entered = given.entered })
  pub clear : clash_among (first_accepted genesis history) given.root kept.block ≡ None
