-- process_participation_record_updates (beacon-chain.md, "Participation records rotation").
use Rattle.std.specs.Prelude.{[]}
use Rattle.spec_state.specs.declared.plain.PlainState.{PlainState}

-- process_participation_record_updates(state)
unfoldable pub process_participation_record_updates : PlainState → PlainState
process_participation_record_updates state =
    record state { previous_epoch_attestations = state.current_epoch_attestations; current_epoch_attestations = [] }
