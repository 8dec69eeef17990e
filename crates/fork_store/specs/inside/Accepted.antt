-- The checks of a block whose parent is kept, and the parts of an accepted block's way into the store, of a block's slot and root
-- and of its state's checkpoints alone.
use Rattle.std.specs.Prelude.{ℕ, List, ◌&&◌, ◌==◌, leb, nat_lt, if◌then◌else◌}
use Rattle.bc_words.specs.Outcome.{Outcome}
use Rattle.bc_words.specs.declared.refusal.Refusal.TheVariants.{FutureBlock, BeforeFinalized, NotOnFinalized}
use Rattle.beacon_types.specs.Equality.{same_root}
use Rattle.beacon_types.specs.declared.checkpoint.Checkpoint.{Checkpoint}
use Rattle.beacon_types.specs.declared.block.BeaconBlock.{BeaconBlock}
use Rattle.spec_state.specs.declared.plain.PlainState.{PlainState}
use Rattle.spec_blocks.specs.Checks.{check, ◌>>◌}
use Rattle.spec_fork_choice.specs.GetAncestor.{get_ancestor}
use Rattle.spec_fork_choice.specs.Store.{KeptBlock, Store}
use Rattle.spec_fork_choice.specs.Slots.{get_current_slot, start_slot_of}
use Rattle.spec_fork_choice.specs.OnBlock.{is_before_attesting_interval, with_better_justified}

unfoldable pub check_block : Store → BeaconBlock → Outcome (Unit {0})
check_block store block = do
  check (leb block.slot (get_current_slot store)) FutureBlock
  check (nat_lt (start_slot_of store store.finalized_checkpoint) block.slot) BeforeFinalized
  check (same_root (get_ancestor store block.parent_root (start_slot_of store store.finalized_checkpoint)) store.finalized_checkpoint.root) NotOnFinalized

unfoldable pub boosted : Store → ℕ → List ℕ → Store
boosted store slot root =
    if (get_current_slot store == slot) && is_before_attesting_interval store then record store { proposer_boost_root = root } else store

unfoldable pub justified_by : Store → Checkpoint → Store
justified_by store checkpoint = if nat_lt store.justified_checkpoint.epoch checkpoint.epoch then with_better_justified store checkpoint else store

unfoldable pub finalized_by : Store → Checkpoint → Checkpoint → Store
finalized_by store finalized justified =
    if nat_lt store.finalized_checkpoint.epoch finalized.epoch then record store { finalized_checkpoint = finalized; justified_checkpoint = justified } else store

unfoldable pub settled : Store → ℕ → List ℕ → Checkpoint → Checkpoint → Store
settled store slot root justified finalized = finalized_by (justified_by (boosted store slot root) justified) finalized justified

-- a block as it is kept
abbrev pub kept_of : List ℕ → BeaconBlock → PlainState → KeptBlock
kept_of root block state = record { root = root; block = block; state = state }
