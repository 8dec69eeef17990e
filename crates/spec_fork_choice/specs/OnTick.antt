-- on_tick (fork-choice.md, "on_tick").
use Rattle.std.specs.Prelude.{ℕ, Bool, ◌&&◌, nat_lt, ◌==◌, if◌then◌else◌}
use Rattle.bc_words.specs.Outcome.{Outcome, done, refused}
use Rattle.bc_words.specs.declared.refusal.Refusal.TheVariants.{TickBack}
use Rattle.beacon_types.specs.Equality.{same_root}
use Rattle.spec_state.specs.Genesis.{zero_root}
use Rattle.spec_fork_choice.specs.Store.{Store}
use Rattle.spec_fork_choice.specs.Slots.{get_current_slot, compute_slots_since_epoch_start, start_slot_of}
use Rattle.spec_fork_choice.specs.GetAncestor.{get_ancestor}

-- whether the best justified checkpoint is better than the justified one, and behind the finalized one
unfoldable pub is_better_justified : Store → Bool
is_better_justified store =
    nat_lt store.justified_checkpoint.epoch store.best_justified_checkpoint.epoch
    && same_root (get_ancestor store store.best_justified_checkpoint.root (start_slot_of store store.finalized_checkpoint)) store.finalized_checkpoint.root

-- in an epoch's first slot the best justified checkpoint becomes the justified one, where it is better
unfoldable pub in_new_epoch : Store → Store
in_new_epoch store = if is_better_justified store then record store { justified_checkpoint = store.best_justified_checkpoint } else store

-- a new slot has no boost. A tick that jumps over an epoch's first slot is in no new epoch
unfoldable pub in_new_slot : Store → Store
in_new_slot store =
    let without_boost : Store = record store { proposer_boost_root = zero_root } in
    if compute_slots_since_epoch_start store.config.preset (get_current_slot store) == 0 then in_new_epoch without_boost else without_boost

-- on_tick(store, time). The time never goes back: the published text leaves this to who calls it
unfoldable pub on_tick : Store → ℕ → Outcome Store
on_tick store time =
    let at_time : Store = record store { time = time } in
    if nat_lt time store.time then refused TickBack
    else done (if nat_lt (get_current_slot store) (get_current_slot at_time) then in_new_slot at_time else at_time)
