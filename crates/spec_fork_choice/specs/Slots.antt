-- The store's slots (fork-choice.md, "get_slots_since_genesis", "get_current_slot" and "compute_slots_since_epoch_start").
-- Genesis is at slot 0.
use Rattle.std.specs.Prelude.{ℕ, ◌-◌, ◌/◌}
use Rattle.spec_state.specs.Misc.{compute_epoch_at_slot, compute_start_slot_at_epoch}
use Rattle.bc_preset.specs.declared.presets.Preset.{Preset}
use Rattle.beacon_types.specs.declared.checkpoint.Checkpoint.{Checkpoint}
use Rattle.spec_fork_choice.specs.Store.{Store}

-- get_slots_since_genesis(store)
unfoldable pub get_slots_since_genesis : Store → ℕ
get_slots_since_genesis store = (store.time - store.genesis_time) / store.config.seconds_per_slot

-- get_current_slot(store)
abbrev pub get_current_slot : Store → ℕ
get_current_slot store = get_slots_since_genesis store

-- compute_slots_since_epoch_start(slot)
unfoldable pub compute_slots_since_epoch_start : Preset → ℕ → ℕ
compute_slots_since_epoch_start preset slot = slot - compute_start_slot_at_epoch preset (compute_epoch_at_slot preset slot)

-- the first slot of a checkpoint's epoch
abbrev pub start_slot_of : Store → Checkpoint → ℕ
start_slot_of store checkpoint = compute_start_slot_at_epoch store.config.preset checkpoint.epoch
