-- What stays true of the store that takes the events of a made chain: its blocks are that chain.
use Rattle.std.specs.Prelude.{◌≡◌, ℕ, ◌+◌, ◌*◌, ◌≤◌, ◌<◌, List, [], ◌∷◌, length, leb, false, Some, if◌then◌else◌}
use Rattle.std.specs.List.{AllByRecursion}
use Rattle.ssz_codec.specs.Basic.{bytes32}
use Rattle.bc_preset.specs.declared.configuration.ConfigValues.{ConfigValues}
use Rattle.beacon_types.specs.declared.checkpoint.Checkpoint.{Checkpoint}
use Rattle.spec_state.specs.declared.plain.PlainState.{PlainState}
use Rattle.beacon_types.specs.Equality.{same_root}
use Rattle.spec_state.specs.Accessors.{get_block_root_at_slot}
use Rattle.spec_state.specs.Genesis.{zero_root, block_header_of, header_root_of}
use Rattle.spec_epochs.specs.declared.justification.Justification.{Justification}
use Rattle.spec_epochs.specs.WeighJustificationAndFinalization.{justification_of}
use Rattle.spec_fork_choice.specs.Store.{KeptBlock, Store, block_of}
use Rattle.spec_drill.specs.inside.Calm.{IsCalm}

-- the root of a chain's block at a slot, or of the last one before it. A chain has its latest block first
unfoldable pub root_at : List KeptBlock → ℕ → List ℕ
root_at [] slot = []
root_at (k ∷ chain) slot = if leb k.block.slot slot then k.root else root_at chain slot

-- each block stands on the one before it, and the first is at slot 0
abbrev pub IsJoined : List KeptBlock → Type 0
IsJoined [] = ⊥
IsJoined (k ∷ []) = k.block.slot ≡ 0
IsJoined (k ∷ j ∷ chain) = (k.block.parent_root ≡ j.root) × (j.block.slot < k.block.slot) × IsJoined (j ∷ chain)

-- a block of it, with a calm state at its slot
pub record IsCalmBlock (config : ConfigValues) (k : KeptBlock) : Type 0 where
  pub root : bytes32.Within k.root
  pub calm : IsCalm 1 k.state
  pub slot : k.state.slot ≡ k.block.slot
  pub preset : k.state.preset ≡ config.preset

-- a store has the blocks of a chain, each by its root
pub record HasChain (config : ConfigValues) (chain : List KeptBlock) (store : Store) : Type 0 where
  pub config_is : store.config ≡ config
  pub few : length chain ≤ length store.blocks
  pub found : AllByRecursion (λ k. block_of store.blocks k.root ≡ Some k) chain
  pub joined : IsJoined chain
  pub calm : AllByRecursion (IsCalmBlock config) chain

-- which block stands at a slot
abbrev pub stands_on : List KeptBlock → ℕ → List ℕ → Type 0
stands_on chain slot root = root ≡ root_at chain slot

-- the latest block roots of a state tell which block stands at each slot before an end
pub record IsTold (stands : ℕ → List ℕ → Type 0) (end : ℕ) (state : PlainState) : Type 0 where
  pub roots : length state.block_roots ≡ state.preset.slots_per_historical_root
  pub told : (slot : ℕ) → slot < end → end ≤ slot + state.preset.slots_per_historical_root → stands slot (get_block_root_at_slot state slot)

-- what holds of all three checkpoints
pub record AllThree (P : Checkpoint → Type 0) (j : Justification) : Type 0 where
  pub previous : P j.previous
  pub current : P j.current
  pub finalized : P j.finalized

-- a checkpoint above epoch 0 is the block that stands at its epoch's first slot
pub record Stands (stands : ℕ → List ℕ → Type 0) (n : ℕ) (c : Checkpoint) : Type 0 where
  pub there : 0 < c.epoch → stands (c.epoch * n) c.root
  pub root : bytes32.Within c.root

-- a state behind a block with this root: it tells which blocks stand at the latest slots, and its checkpoints are such blocks
pub record IsLinked (stands : ℕ → List ℕ → Type 0) (root : List ℕ) (x : PlainState) : Type 0 where
  pub told : IsTold stands x.slot x
  pub header : header_root_of x ≡ root
  pub filled : same_root (block_header_of x).state_root zero_root ≡ false
  pub checkpoints : AllThree (Stands stands x.preset.slots_per_epoch) (justification_of x)

-- A store whose blocks are a made chain that ends with this block
pub record IsOnChain (config : ConfigValues) (k : KeptBlock) (chain : List KeptBlock) (store : Store) : Type 0 where
  pub has : HasChain config (k ∷ chain) store
  pub only : (root : List ℕ) (j : KeptBlock) → block_of store.blocks root ≡ Some j → j.block.slot ≤ k.block.slot
  pub genesis_time : store.genesis_time ≡ 1000
  pub finalized : store.finalized_checkpoint.root ≡ root_at (k ∷ chain) (store.finalized_checkpoint.epoch * config.preset.slots_per_epoch)
  pub final_low : store.finalized_checkpoint.epoch * config.preset.slots_per_epoch ≤ k.block.slot
  pub linked : IsLinked (stands_on (k ∷ chain)) k.root k.state
