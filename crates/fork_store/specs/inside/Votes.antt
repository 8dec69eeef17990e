-- Who attests, by the committees that are at hand, and an attestation as an event.
use Rattle.std.specs.Prelude.{ℕ, Bool, not, leb, List, length, Option, Some, None, nat_lt, ◌==◌}
use Rattle.bc_words.specs.Outcome.{Outcome, done, refused, ◌>>=◌}
use Rattle.bc_words.specs.Events.{EventOutcome, accepted, on_the_way}
use Rattle.bc_words.specs.declared.refusal.Refusal.TheVariants.{FcSlotEpoch, FcTargetUnknown, FcBlockUnknown, FcBlockAfter, FcTargetChain, FcTooEarly, FcCommittee, FcBitsShort, FcEmpty}
use Rattle.beacon_types.specs.declared.attestation.Attestation.{Attestation}
use Rattle.spec_state.specs.declared.plain.PlainState.{PlainState}
use Rattle.spec_state.specs.Accessors.{members_with_bits, get_attesting_indices}
use Rattle.spec_blocks.specs.Checks.{check, ◌>>◌}
use Rattle.beacon_types.specs.Equality.{same_root}
use Rattle.beacon_types.specs.declared.attestation_data.AttestationData.{AttestationData}
use Rattle.spec_state.specs.Misc.{compute_epoch_at_slot}
use Rattle.spec_fork_choice.specs.Store.{Store, is_kept, slot_of}
use Rattle.spec_fork_choice.specs.Slots.{get_current_slot, start_slot_of}
use Rattle.spec_fork_choice.specs.GetAncestor.{get_ancestor}
use Rattle.spec_fork_choice.specs.StoreTargetCheckpointState.{store_target_checkpoint_state}
use Rattle.spec_fork_choice.specs.ValidateOnAttestation.{validate_on_attestation}
use Rattle.spec_fork_choice.specs.OnAttestation.{check_target_committee}

-- the last three checks of a vote; the two before and those; and the one before and those
unfoldable pub check_voted : Store → AttestationData → Outcome (Unit {0})
check_voted store content = do
  check (leb (slot_of store.blocks content.beacon_block_root) content.slot) FcBlockAfter
  check (same_root (get_ancestor store content.beacon_block_root (start_slot_of store content.target)) content.target.root) FcTargetChain
  check (nat_lt content.slot (get_current_slot store)) FcTooEarly

unfoldable pub check_known : Store → AttestationData → Outcome (Unit {0})
check_known store content = do
  check (is_kept store.blocks content.target.root) FcTargetUnknown
  check (is_kept store.blocks content.beacon_block_root) FcBlockUnknown
  check_voted store content

unfoldable pub check_vote : Store → AttestationData → Outcome (Unit {0})
check_vote store content = do
  check (content.target.epoch == compute_epoch_at_slot store.config.preset content.slot) FcSlotEpoch
  check_known store content

-- the members of a committee that attest. There is such a committee, it has no more members than there are bits, and
-- somebody attests
unfoldable pub attesters_among : Option (List ℕ) → List Bool → Outcome (List ℕ)
attesters_among None bits = refused FcCommittee
attesters_among (Some committee) bits = do
  check (leb (length committee) (length bits)) FcBitsShort
  check (not (length (members_with_bits committee bits) == 0)) FcEmpty
  done (members_with_bits committee bits)

-- the attesters of an attestation in the state of its target
unfoldable pub attesters_in : PlainState → Attestation → Outcome (List ℕ)
attesters_in state attestation = do
  check_target_committee state attestation
  let attesting_indices = get_attesting_indices state attestation.content attestation.aggregation_bits
  check (not (length attesting_indices == 0)) FcEmpty
  done attesting_indices

-- the attesters of an attestation
unfoldable pub attesters_of : Store → Attestation → Outcome (List ℕ)
attesters_of store attestation = do
  target_state ← store_target_checkpoint_state store attestation.content.target
  attesters_in target_state attestation

-- and of one that may count now
unfoldable pub judged : Store → Attestation → Bool → Outcome (List ℕ)
judged store attestation is_from_block = do
  validate_on_attestation store attestation is_from_block
  attesters_of store attestation

-- what a handler that never clashes answers of an event
abbrev pub event_of : {A : Type 0} → Outcome A → EventOutcome A
event_of outcome = on_the_way outcome accepted
