-- process_eth1_data_reset (beacon-chain.md, "Eth1 data votes updates").
use Rattle.std.specs.Prelude.{◌+◌, ◌%◌, [], ◌==◌, if◌then◌else◌}
use Rattle.spec_state.specs.declared.plain.PlainState.{PlainState}
use Rattle.spec_state.specs.Accessors.{get_current_epoch}

-- process_eth1_data_reset(state): a new period begins without votes
unfoldable pub process_eth1_data_reset : PlainState → PlainState
process_eth1_data_reset state =
    if (get_current_epoch state + 1) % state.preset.epochs_per_eth1_voting_period == 0 then record state { eth1_data_votes = [] } else state
