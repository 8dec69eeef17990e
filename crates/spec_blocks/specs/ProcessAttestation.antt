-- process_attestation (beacon-chain.md, "Attestations"). Signatures are off.
use Rattle.std.specs.Prelude.{ℕ, Bool, not, ◌||◌, List, length, leb, nat_lt, ◌==◌, if◌then◌else◌}
use Rattle.bc_words.specs.Outcome.{Outcome, done, ◌>>=◌, checked_add, checked_sub, checked_push}
use Rattle.bc_words.specs.declared.refusal.Refusal.TheVariants.{AtTargetEpoch, AtSlotEpoch, AtEarly, AtLate, AtIndex, AtBits, AtSource, AtEmpty}
use Rattle.beacon_types.specs.declared.attestation_data.AttestationData.{AttestationData}
use Rattle.beacon_types.specs.Equality.{same_checkpoint}
use Rattle.beacon_types.specs.declared.pending_attestation.PendingAttestation.{PendingAttestation}
use Rattle.beacon_types.specs.declared.attestation.Attestation.{Attestation}
use Rattle.spec_state.specs.declared.plain.PlainState.{PlainState}
use Rattle.spec_state.specs.States.{attestations_limit}
use Rattle.spec_state.specs.Misc.{compute_epoch_at_slot}
use Rattle.spec_state.specs.Accessors.{get_current_epoch, get_previous_epoch, get_committee_count_per_slot, get_beacon_committee, get_attesting_indices}
use Rattle.spec_blocks.specs.Checks.{check, ◌>>◌}

-- an attestation for the current epoch waits in its list, where its source is the current justified checkpoint
unfoldable pub with_current_pending : PlainState → PendingAttestation → Outcome PlainState
with_current_pending state pending = do
  check (same_checkpoint pending.content.source state.current_justified_checkpoint) AtSource
  attestations ← checked_push (attestations_limit state.preset) state.current_epoch_attestations pending
  done (record state { current_epoch_attestations = attestations })

-- and one for the previous epoch, where its source is the previous justified checkpoint
unfoldable pub with_previous_pending : PlainState → PendingAttestation → Outcome PlainState
with_previous_pending state pending = do
  check (same_checkpoint pending.content.source state.previous_justified_checkpoint) AtSource
  attestations ← checked_push (attestations_limit state.preset) state.previous_epoch_attestations pending
  done (record state { previous_epoch_attestations = attestations })

-- the attestation waits in the list of its target's epoch for the end of the epoch
unfoldable pub with_pending : PlainState → PendingAttestation → Outcome PlainState
with_pending state pending =
    if pending.content.target.epoch == get_current_epoch state then with_current_pending state pending else with_previous_pending state pending

-- the checks of the vote's target and slot
unfoldable pub check_times : PlainState → AttestationData → Outcome (Unit {0})
check_times state content = do
  -- the target is of the previous or the current epoch
  check ((content.target.epoch == get_previous_epoch state) || (content.target.epoch == get_current_epoch state)) AtTargetEpoch
  -- which is the epoch of the slot
  check (content.target.epoch == compute_epoch_at_slot state.preset content.slot) AtSlotEpoch
  -- the inclusion delay has passed
  earliest ← checked_add content.slot state.preset.min_attestation_inclusion_delay
  check (leb earliest state.slot) AtEarly
  -- and no more than an epoch
  latest ← checked_add content.slot state.preset.slots_per_epoch
  check (leb state.slot latest) AtLate

-- the checks of the vote's committee
unfoldable pub check_committee : PlainState → AttestationData → List Bool → Outcome (Unit {0})
check_committee state content bits = do
  -- the slot has such a committee
  check (nat_lt content.index (get_committee_count_per_slot state content.target.epoch)) AtIndex
  -- with as many members as there are bits
  check (length bits == length (get_beacon_committee state content.slot content.index)) AtBits

-- process_attestation(state, attestation), where proposer is the block's proposer. Of is_valid_indexed_attestation there
-- is left that somebody attested: the members of a committee are in the registry, each once
unfoldable pub process_attestation : PlainState → Attestation → ℕ → Outcome PlainState
process_attestation state attestation proposer = do
  let content = attestation.content
  check_times state content
  check_committee state content attestation.aggregation_bits
  delay ← checked_sub state.slot content.slot
  next ← with_pending state (record { aggregation_bits = attestation.aggregation_bits; content = content; inclusion_delay = delay; proposer_index = proposer })
  -- somebody attested
  check (not (length (get_attesting_indices state content attestation.aggregation_bits) == 0)) AtEmpty
  done next
