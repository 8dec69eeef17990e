-- should_update_justified_checkpoint (fork-choice.md, "should_update_justified_checkpoint").
use Rattle.std.specs.Prelude.{Bool, ◌||◌, nat_lt}
use Rattle.beacon_types.specs.declared.checkpoint.Checkpoint.{Checkpoint}
use Rattle.beacon_types.specs.Equality.{same_root}
use Rattle.spec_fork_choice.specs.Store.{Store}
use Rattle.spec_fork_choice.specs.Slots.{get_current_slot, compute_slots_since_epoch_start, start_slot_of}
use Rattle.spec_fork_choice.specs.GetAncestor.{get_ancestor}

-- should_update_justified_checkpoint(store, new_justified_checkpoint): early in an epoch, or where the new checkpoint is
-- behind the justified one
unfoldable pub should_update_justified_checkpoint : Store → Checkpoint → Bool
should_update_justified_checkpoint store new_justified_checkpoint =
    nat_lt (compute_slots_since_epoch_start store.config.preset (get_current_slot store)) store.config.preset.safe_slots_to_update_justified
    || same_root (get_ancestor store new_justified_checkpoint.root (start_slot_of store store.justified_checkpoint)) store.justified_checkpoint.root
