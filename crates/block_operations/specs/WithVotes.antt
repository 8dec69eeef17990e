-- The votes of a block on their way into the state's lists of pending attestations.
use Rattle.std.specs.Prelude.{◌+◌, ◌≤◌, List, ◌++◌, length}
use Rattle.beacon_types.specs.declared.pending_attestation.PendingAttestation.{PendingAttestation}
use Rattle.spec_state.specs.declared.plain.PlainState.{PlainState}
use Rattle.spec_state.specs.States.{attestations_limit}

-- the state with votes behind those of the previous epoch, and others behind those of the current one
unfoldable pub with_votes : PlainState → List PendingAttestation × List PendingAttestation → PlainState
with_votes state votes =
    record state {
      previous_epoch_attestations = state.previous_epoch_attestations ++ votes.0;
      current_epoch_attestations = state.current_epoch_attestations ++ votes.1;
    }

-- both lists have room for them
pub record HasRoom (state : PlainState) (votes : List PendingAttestation × List PendingAttestation) : Type 0 where
  pub previous : length state.previous_epoch_attestations + length votes.0 ≤ attestations_limit state.preset
  pub current : length state.current_epoch_attestations + length votes.1 ≤ attestations_limit state.preset
