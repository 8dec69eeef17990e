-- get_head_deltas (beacon-chain.md, "Components of attestation deltas").
use Rattle.bc_words.specs.Outcome.{Outcome}
use Rattle.spec_state.specs.declared.plain.PlainState.{PlainState}
use Rattle.spec_state.specs.Accessors.{get_previous_epoch}
use Rattle.spec_epochs.specs.declared.deltas.Deltas.{Deltas}
use Rattle.spec_epochs.specs.Helpers.{get_matching_head_attestations}
use Rattle.spec_epochs.specs.GetAttestationComponentDeltas.{get_attestation_component_deltas}

-- get_head_deltas(state)
unfoldable pub get_head_deltas : PlainState → Outcome Deltas
get_head_deltas state =
    get_attestation_component_deltas state (get_matching_head_attestations state (get_previous_epoch state))
