-- Sound states: what the calls of the state transition are given, and leave behind. Every state of a chain from a
-- genesis is sound. The published text has no word for this; its functions are only meant for such states.
use Rattle.std.specs.Prelude.{◌≡◌, ℕ, ◌<◌, ◌≤◌, [], length}
use Rattle.std.specs.List.{AllByRecursion}
use Rattle.beacon_types.specs.declared.pending_attestation.PendingAttestation.{PendingAttestation}
use Rattle.spec_state.specs.declared.plain.PlainState.{PlainState}
use Rattle.spec_state.specs.Misc.{compute_epoch_at_slot}
use Rattle.spec_state.specs.Accessors.{get_current_epoch, get_previous_epoch, get_committee_count_per_slot, get_beacon_committee}

-- A pending attestation of an epoch: its slot is in the epoch and below the state's, its target is the epoch's, the
-- epoch has its committee, which has as many members as there are bits, it was included behind its slot, by a proposer
-- in the registry
pub record IsSoundPending (state : PlainState) (epoch : ℕ) (attestation : PendingAttestation) : Type 0 where
  pub slot_epoch : compute_epoch_at_slot state.preset attestation.content.slot ≡ epoch
  pub earlier : attestation.content.slot < state.slot
  pub target : attestation.content.target.epoch ≡ epoch
  pub index : attestation.content.index < get_committee_count_per_slot state epoch
  pub bits : length attestation.aggregation_bits ≡ length (get_beacon_committee state attestation.content.slot attestation.content.index)
  pub delay : 1 ≤ attestation.inclusion_delay
  pub proposer : attestation.proposer_index < length state.validators

-- a state whose justified epochs are at most this one
pub record IsSoundTo (justified : ℕ) (state : PlainState) : Type 0 where
  pub balances : length state.balances ≡ length state.validators
  pub header : state.latest_block_header.slot ≤ state.slot
  pub previous_justified : state.previous_justified_checkpoint.epoch ≤ justified
  pub current_justified : state.current_justified_checkpoint.epoch ≤ justified
  pub finalized : state.finalized_checkpoint.epoch ≤ get_previous_epoch state
  pub previous_attestations : AllByRecursion (IsSoundPending state (get_previous_epoch state)) state.previous_epoch_attestations
  pub current_attestations : AllByRecursion (IsSoundPending state (get_current_epoch state)) state.current_epoch_attestations
  pub none_before : get_current_epoch state ≡ 0 → state.previous_epoch_attestations ≡ []

-- A sound state
abbrev pub IsSound : PlainState → Type 0
IsSound state = IsSoundTo (get_previous_epoch state) state

-- A state within epoch processing, behind justification: the current epoch may be justified already
abbrev pub IsSoundWithinEpoch : PlainState → Type 0
IsSoundWithinEpoch state = IsSoundTo (get_current_epoch state) state
