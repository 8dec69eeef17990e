-- process_randao_mixes_reset (beacon-chain.md, "Randao mixes updates").
use Rattle.std.specs.Prelude.{◌+◌, ◌%◌, slice_set}
use Rattle.spec_state.specs.declared.plain.PlainState.{PlainState}
use Rattle.spec_state.specs.Accessors.{get_current_epoch, get_randao_mix}

-- process_randao_mixes_reset(state): the next epoch begins with the mix of this one
unfoldable pub process_randao_mixes_reset : PlainState → PlainState
process_randao_mixes_reset state =
    record state { randao_mixes = slice_set state.randao_mixes ((get_current_epoch state + 1) % state.preset.epochs_per_historical_vector) (get_randao_mix state (get_current_epoch state)) }
