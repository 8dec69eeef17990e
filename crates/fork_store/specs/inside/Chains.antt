-- What kept states say of the chain behind them, so that the store's justified checkpoints are kept blocks whose states were
-- taken on to the first slots of their epochs by accepted blocks.
--
-- The store's invariant names it as one field, `chained : IsChained store`. It speaks of configuration, kept blocks and the two
-- justified checkpoints alone, so a change of time, boost, votes or the finalized checkpoint leaves it as it stands.
use Rattle.std.specs.Prelude.{◌≡◌, ℕ, ◌+◌, ◌<◌, ◌≤◌, List, length, Some}
use Rattle.std.specs.List.{AllByRecursion}
use Rattle.bc_preset.specs.declared.configuration.ConfigValues.{ConfigValues}
use Rattle.beacon_types.specs.declared.checkpoint.Checkpoint.{Checkpoint}
use Rattle.spec_state.specs.declared.plain.PlainState.{PlainState}
use Rattle.spec_state.specs.Misc.{compute_start_slot_at_epoch}
use Rattle.spec_state.specs.Accessors.{get_block_root_at_slot}
use Rattle.spec_transition.specs.ProcessSlots.{process_slots}
use Rattle.spec_fork_choice.specs.Store.{KeptBlock, Store, block_of, first_slot}
use Rattle.fork_store.specs.Done.{IsDone}
use Rattle.fork_store.specs.Stores.{first_epoch}

-- a root is a kept block's, and the state behind the block can be taken on to a slot
pub record IsReached (config : ConfigValues) (blocks : List KeptBlock) (root : List ℕ) (slot : ℕ) : Type 0 where
  pub kept : KeptBlock
  pub found : block_of blocks root ≡ Some kept
  pub passed : kept.state.slot < slot → IsDone (process_slots kept.state slot config)

-- the same of a checkpoint and the first slot of its epoch
abbrev pub IsReachedCheckpoint : ConfigValues → List KeptBlock → Checkpoint → Type 0
IsReachedCheckpoint config blocks checkpoint =
    IsReached config blocks checkpoint.root (compute_start_slot_at_epoch config.preset checkpoint.epoch)

-- A state whose slots before one are told by its latest block roots: from the first kept block on each of these is reached at its
-- slot, and so is its justified checkpoint at the first slot of its epoch, if that is behind the first kept block's. Where it isn't,
-- nothing behind that epoch is justified or finalized
pub record IsLinkedTo (config : ConfigValues) (blocks : List KeptBlock) (end : ℕ) (state : PlainState) : Type 0 where
  pub preset : state.preset ≡ config.preset
  pub roots : length state.block_roots ≡ config.preset.slots_per_historical_root
  pub history : (slot : ℕ) → first_slot blocks ≤ slot → slot < end → end ≤ slot + config.preset.slots_per_historical_root
      → IsReached config blocks (get_block_root_at_slot state slot) slot
  pub justified : first_epoch config.preset blocks < state.current_justified_checkpoint.epoch
      → IsReachedCheckpoint config blocks state.current_justified_checkpoint
  pub previous : state.current_justified_checkpoint.epoch ≤ first_epoch config.preset blocks
      → state.previous_justified_checkpoint.epoch ≤ first_epoch config.preset blocks
  pub finalized : state.current_justified_checkpoint.epoch ≤ first_epoch config.preset blocks
      → state.finalized_checkpoint.epoch ≤ first_epoch config.preset blocks

-- all slots before its own are
abbrev pub IsLinked : ConfigValues → List KeptBlock → PlainState → Type 0
IsLinked config blocks state = IsLinkedTo config blocks state.slot state

-- all states behind kept blocks are linked, and two checkpoints are reached
pub record AreChained (config : ConfigValues) (blocks : List KeptBlock) (first second : Checkpoint) : Type 0 where
  pub linked : AllByRecursion (λ kept. IsLinked config blocks kept.state) blocks
  pub justified : IsReachedCheckpoint config blocks first
  pub best_justified : IsReachedCheckpoint config blocks second

-- those of a store
abbrev pub IsChained : Store → Type 0
IsChained store = AreChained store.config store.blocks store.justified_checkpoint store.best_justified_checkpoint
