-- process_slashings_reset (beacon-chain.md, "Slashings balances updates").
use Rattle.std.specs.Prelude.{◌+◌, ◌%◌, slice_set}
use Rattle.spec_state.specs.declared.plain.PlainState.{PlainState}
use Rattle.spec_state.specs.Accessors.{get_current_epoch}

-- process_slashings_reset(state): nothing was slashed in the next epoch yet
unfoldable pub process_slashings_reset : PlainState → PlainState
process_slashings_reset state =
    record state { slashings = slice_set state.slashings ((get_current_epoch state + 1) % state.preset.epochs_per_slashings_vector) 0 }
