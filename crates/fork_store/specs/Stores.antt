-- What holds of every kept block, and of every store.
use Rattle.std.specs.Prelude.{◌≡◌, ℕ, ◌≤◌, ◌<◌, ◌^◌, List, true, false}
use Rattle.std.specs.List.{AllByRecursion}
use Rattle.bc_preset.specs.declared.presets.Preset.{Preset}
use Rattle.beacon_types.specs.declared.checkpoint.Checkpoint.{Checkpoint}
use Rattle.beacon_types.specs.Equality.{same_root}
use Rattle.beacon_types.specs.Blocks.{block_codec}
use Rattle.beacon_types.specs.declared.block.BeaconBlock.{BeaconBlock}
use Rattle.spec_state.specs.declared.plain.PlainState.{PlainState}
use Rattle.spec_state.specs.States.{state_codec}
use Rattle.spec_state.specs.Genesis.{zero_root}
use Rattle.spec_state.specs.Misc.{compute_epoch_at_slot, compute_start_slot_at_epoch}
use Rattle.spec_state.specs.Soundness.{IsSound}
use Rattle.spec_transition.specs.StateTransition.{IsLatest}
use Rattle.spec_fork_choice.specs.Store.{KeptBlock, Store, first_slot}
use Rattle.spec_fork_choice.specs.Slots.{start_slot_of}
use Rattle.fork_store.specs.Trees.{IsTree}

-- a root is a block's
unfoldable pub IsRootOf : List ℕ → BeaconBlock → Type 0
IsRootOf root block = root ≡ block_codec.hash_tree_root block

-- A kept block has its own root and a slot of 64 bits, and the state behind it is what the state transition asks for: sound, of the
-- block's slot, with the block as its latest one, and with a root that isn't zero
pub record IsKept (kept : KeptBlock) : Type 0 where
  pub root : IsRootOf kept.root kept.block
  pub sound : IsSound kept.state
  pub slot : kept.state.slot ≡ kept.block.slot
  pub latest : IsLatest kept.state kept.block
  pub low : kept.block.slot < 2 ^ 64
  pub some : same_root ((state_codec kept.state.preset).hash_tree_root kept.state) zero_root ≡ false

-- the state behind a block that isn't kept yet: it has the block's state root
pub record IsBehind (block : BeaconBlock) (state : PlainState) : Type 0 where
  pub sound : IsSound state
  pub slot : state.slot ≡ block.slot
  pub latest : IsLatest state block
  pub state_root : same_root block.state_root ((state_codec state.preset).hash_tree_root state) ≡ true

-- whether a kept state is of a preset
abbrev pub HasPreset : Preset → KeptBlock → Type 0
HasPreset preset kept = kept.state.preset ≡ preset

-- the epoch of the first kept block
unfoldable pub first_epoch : Preset → List KeptBlock → ℕ
first_epoch preset blocks = compute_epoch_at_slot preset (first_slot blocks)

-- whether a checkpoint isn't of an epoch before that
abbrev pub IsLate : Store → Checkpoint → Type 0
IsLate store checkpoint = first_epoch store.config.preset store.blocks ≤ checkpoint.epoch

-- the time isn't before genesis, all states are of the configuration's preset, the blocks are a tree, the justified epochs begin at
-- a slot of 64 bits, the first kept block stands at its epoch's first slot, and no checkpoint is of an epoch before it
pub record IsStore (store : Store) : Type 0 where
  pub time : store.genesis_time ≤ store.time
  pub presets : AllByRecursion (HasPreset store.config.preset) store.blocks
  pub tree : IsTree store.blocks
  pub justified : start_slot_of store store.justified_checkpoint < 2 ^ 64
  pub best_justified : start_slot_of store store.best_justified_checkpoint < 2 ^ 64
  pub begins : compute_start_slot_at_epoch store.config.preset (first_epoch store.config.preset store.blocks) ≡ first_slot store.blocks
  pub justified_late : IsLate store store.justified_checkpoint
  pub best_justified_late : IsLate store store.best_justified_checkpoint
  pub finalized_late : IsLate store store.finalized_checkpoint
