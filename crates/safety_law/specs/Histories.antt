-- Two histories on one genesis, in which a root is a name for one block. A list of accepted blocks has the latest first.
use Rattle.std.specs.Prelude.{◌≡◌, false, Contains, List, [], ◌++◌, length}
use Rattle.bc_preset.specs.declared.configuration.ConfigValues.{ConfigValues}
use Rattle.bc_preset.specs.laws.Bounds.{HasPresetBounds}
use Rattle.beacon_types.specs.Equality.{same_root}
use Rattle.beacon_types.specs.Blocks.{block_codec}
use Rattle.spec_state.specs.declared.plain.PlainState.{PlainState}
use Rattle.spec_state.specs.Genesis.{zero_root, header_root_of}
use Rattle.spec_state.specs.States.{state_codec}
use Rattle.spec_epochs.specs.WeighJustificationAndFinalization.{justification_of}
use Rattle.spec_fork_choice.specs.GetForkchoiceStore.{genesis_block}
use Rattle.ffg_law.specs.Histories.{nothing_justified}
use Rattle.spec_forensics.specs.Histories.{AcceptedBlock, IsHistory}

-- A state begins histories: it is at slot 0, nothing is justified in it and no attestation waits, its latest block is the genesis
-- block, and its root isn't zero
pub record Begins (genesis : PlainState) : Type 0 where
  pub bounds : HasPresetBounds genesis.preset
  pub slot : genesis.slot ≡ 0
  pub roots : length genesis.block_roots ≡ genesis.preset.slots_per_historical_root
  pub nothing : justification_of genesis ≡ nothing_justified
  pub previous : genesis.previous_epoch_attestations ≡ []
  pub current : genesis.current_epoch_attestations ≡ []
  pub latest : header_root_of genesis ≡ block_codec.hash_tree_root (genesis_block genesis)
  pub state_root_is_set : same_root ((state_codec genesis.preset).hash_tree_root genesis) zero_root ≡ false

-- blocks of one root are one block
abbrev pub HaveOneContent : List AcceptedBlock → Type 0
HaveOneContent blocks = (a b : AcceptedBlock) → Contains blocks a → Contains blocks b → a.root ≡ b.root → a.block ≡ b.block

-- no block has the root of genesis
abbrev pub NoneIsGenesis : PlainState → List AcceptedBlock → Type 0
NoneIsGenesis genesis blocks = (b : AcceptedBlock) → Contains blocks b → b.root ≡ header_root_of genesis → ⊥

-- Two histories on one genesis, in both of which together a root is a name for one block
pub record AreHistories (config : ConfigValues) (genesis : PlainState) (first second : List AcceptedBlock) : Type 0 where
  pub begins : Begins genesis
  pub first_is : IsHistory config genesis first
  pub second_is : IsHistory config genesis second
  pub content : HaveOneContent (first ++ second)
  pub others : NoneIsGenesis genesis (first ++ second)
