-- Whether a state is sound, as a test: it answers true exactly of the states that `IsSound` of spec_state describes
-- (beacon_node's `soundness_is_tested`).
use Rattle.std.specs.Prelude.{ℕ, Bool, not, ◌&&◌, ◌||◌, ◌==◌, length, nat_lt, nat_le}
use Rattle.std.specs.List.{list_all}
use Rattle.beacon_types.specs.declared.pending_attestation.PendingAttestation.{PendingAttestation}
use Rattle.spec_state.specs.declared.plain.PlainState.{PlainState}
use Rattle.spec_state.specs.Misc.{compute_epoch_at_slot}
use Rattle.spec_state.specs.Accessors.{get_current_epoch, get_previous_epoch, get_committee_count_per_slot, get_beacon_committee}

-- A pending attestation of an epoch: its slot is in the epoch and below the state's, its target is the epoch's, the
-- epoch has its committee, which has as many members as there are bits, it was included behind its slot, by a proposer
-- in the registry
unfoldable pub is_sound_pending : PlainState → ℕ → PendingAttestation → Bool
is_sound_pending state epoch attestation =
    (compute_epoch_at_slot state.preset attestation.content.slot == epoch)
    && (nat_lt attestation.content.slot state.slot
    && ((attestation.content.target.epoch == epoch)
    && (nat_lt attestation.content.index (get_committee_count_per_slot state epoch)
    && ((length attestation.aggregation_bits == length (get_beacon_committee state attestation.content.slot attestation.content.index))
    && (nat_le 1 attestation.inclusion_delay
    && nat_lt attestation.proposer_index (length state.validators))))))

-- A state: it has a balance for each validator, its header is not behind its slot, nothing of the current epoch is justified
-- or final, and nothing is pending before the first epoch
unfoldable pub is_sound : PlainState → Bool
is_sound state =
    (length state.balances == length state.validators)
    && (nat_le state.latest_block_header.slot state.slot
    && (nat_le state.previous_justified_checkpoint.epoch (get_previous_epoch state)
    && (nat_le state.current_justified_checkpoint.epoch (get_previous_epoch state)
    && (nat_le state.finalized_checkpoint.epoch (get_previous_epoch state)
    && (list_all (is_sound_pending state (get_previous_epoch state)) state.previous_epoch_attestations
    && (list_all (is_sound_pending state (get_current_epoch state)) state.current_epoch_attestations
    && (not (get_current_epoch state == 0) || (length state.previous_epoch_attestations == 0))))))))
