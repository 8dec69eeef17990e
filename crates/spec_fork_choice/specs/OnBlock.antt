-- on_block (fork-choice.md, "on_block"). The proposer boost and the store's checkpoints follow our profile.
use Rattle.std.specs.Prelude.{ℕ, ◌-◌, ◌/◌, ◌%◌, Bool, ◌&&◌, List, [], ◌∷◌, ◌++◌, Option, Some, None, leb, nat_lt, ◌==◌, if◌then◌else◌}
use Rattle.bc_words.specs.Outcome.{Outcome, ◌>>=◌}
use Rattle.bc_words.specs.Events.{EventOutcome, accepted, event_clashes, on_the_way}
use Rattle.bc_words.specs.declared.refusal.Refusal.TheVariants.{ParentUnknown, FutureBlock, BeforeFinalized, NotOnFinalized}
use Rattle.bc_words.specs.declared.store_stop.ClashKind.{ClashKind}
use Rattle.beacon_types.specs.declared.checkpoint.Checkpoint.{Checkpoint}
use Rattle.beacon_types.specs.Equality.{same_root}
use Rattle.beacon_types.specs.declared.block.BeaconBlock.{BeaconBlock}
use Rattle.beacon_types.specs.declared.signed_block.SignedBeaconBlock.{SignedBeaconBlock}
use Rattle.beacon_types.specs.Blocks.{block_codec}
use Rattle.spec_state.specs.declared.plain.PlainState.{PlainState}
use Rattle.spec_blocks.specs.Checks.{check, ◌>>◌}
use Rattle.spec_transition.specs.ProcessSlots.{Stepped}
use Rattle.spec_transition.specs.StateTransition.{state_transition}
use Rattle.spec_fork_choice.specs.Store.{KeptBlock, Store, block_of, is_kept}
use Rattle.spec_fork_choice.specs.Slots.{get_current_slot, start_slot_of}
use Rattle.spec_fork_choice.specs.GetAncestor.{get_ancestor}
use Rattle.spec_fork_choice.specs.ShouldUpdateJustifiedCheckpoint.{should_update_justified_checkpoint}
use Rattle.spec_fork_choice.specs.StoreTargetCheckpointState.{kept_or}
use Rattle.spec_fork_choice.specs.Clash.{clash_of}

-- What an accepted block leaves beside the store: its root, the root of the state behind it, and the states on which epoch
-- processing was entered on the way
pub record BlockIn : Type 0 where
  pub root : List ℕ
  pub state_root : List ℕ
  pub entered : List PlainState

-- INTERVALS_PER_SLOT
abbrev pub intervals_per_slot : ℕ
intervals_per_slot = 3

-- whether blocks are timely now: the slot's first interval isn't over. The interval is in whole seconds, rounded down
unfoldable pub is_before_attesting_interval : Store → Bool
is_before_attesting_interval store =
    nat_lt ((store.time - store.genesis_time) % store.config.seconds_per_slot) (store.config.seconds_per_slot / intervals_per_slot)

-- the block with its state, behind the others; a kept block that comes again is kept already
unfoldable pub with_block : Store → KeptBlock → Store
with_block store kept = if is_kept store.blocks kept.root then store else record store { blocks = store.blocks ++ kept ∷ [] }

-- a timely block of the current slot has the boost, whichever had it
unfoldable pub with_boost : Store → KeptBlock → Store
with_boost store kept =
    if (get_current_slot store == kept.block.slot) && is_before_attesting_interval store then record store { proposer_boost_root = kept.root } else store

-- the best justified checkpoint is the one of the greatest epoch
unfoldable pub with_best_justified : Store → Checkpoint → Store
with_best_justified store checkpoint =
    if nat_lt store.best_justified_checkpoint.epoch checkpoint.epoch then record store { best_justified_checkpoint = checkpoint } else store

-- a better checkpoint is justified at once where it may be
unfoldable pub with_better_justified : Store → Checkpoint → Store
with_better_justified store checkpoint =
    let best : Store = with_best_justified store checkpoint in
    if should_update_justified_checkpoint best checkpoint then record best { justified_checkpoint = checkpoint } else best

-- the justified checkpoint behind a block with this state
unfoldable pub with_justified : Store → PlainState → Store
with_justified store state =
    let checkpoint : Checkpoint = state.current_justified_checkpoint in
    if nat_lt store.justified_checkpoint.epoch checkpoint.epoch then with_better_justified store checkpoint else store

-- the finalized checkpoint behind a block with this state; the state's justified one comes with it, whatever stood
unfoldable pub with_finalized : Store → PlainState → Store
with_finalized store state =
    if nat_lt store.finalized_checkpoint.epoch state.finalized_checkpoint.epoch
    then record store { finalized_checkpoint = state.finalized_checkpoint; justified_checkpoint = state.current_justified_checkpoint }
    else store

-- the store behind an accepted block
unfoldable pub with_accepted : Store → KeptBlock → Store
with_accepted store kept = with_finalized (with_justified (with_boost (with_block store kept) kept) kept.state) kept.state

-- the checks of a block, and the step of its parent's state by it
unfoldable pub block_step : Store → SignedBeaconBlock → Outcome Stepped
block_step store signed_block = do
  let block = signed_block.message
  -- the parent is known
  parent ← kept_or ParentUnknown (block_of store.blocks block.parent_root)
  -- the block isn't of the future
  check (leb block.slot (get_current_slot store)) FutureBlock
  -- it is later than the finalized epoch's first slot
  let finalized_slot = start_slot_of store store.finalized_checkpoint
  check (nat_lt finalized_slot block.slot) BeforeFinalized
  -- and behind the finalized block
  check (same_root (get_ancestor store block.parent_root finalized_slot) store.finalized_checkpoint.root) NotOnFinalized
  -- and it is valid on its parent's state
  state_transition parent.state signed_block store.config

-- the store behind a valid block, where nothing clashes
unfoldable pub accept_block : Store → BeaconBlock → List ℕ → Stepped → Option ClashKind → EventOutcome (Store × BlockIn)
accept_block store block root step (Some kind) = event_clashes kind
accept_block store block root step None = accepted (
  with_accepted store (record { root = root; block = block; state = step.state }),
  record { root = root; state_root = block.state_root; entered = step.entered },
)

-- on_block(store, signed_block). Behind all checks the block's root has to be a name for it alone
unfoldable pub on_block : Store → SignedBeaconBlock → EventOutcome (Store × BlockIn)
on_block store signed_block =
    let root : List ℕ = block_codec.hash_tree_root signed_block.message in
    on_the_way (block_step store signed_block) (λ step.
    accept_block store signed_block.message root step (clash_of store.blocks root signed_block.message.state_root signed_block.message))
