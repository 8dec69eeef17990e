-- on_attestation (fork-choice.md, "on_attestation"). Signatures are off.
use Rattle.std.specs.Prelude.{ℕ, ◌+◌, ◌*◌, ◌%◌, Bool, not, length, leb, nat_lt, ◌==◌}
use Rattle.bc_words.specs.Outcome.{Outcome, done, ◌>>=◌}
use Rattle.bc_words.specs.declared.refusal.Refusal.TheVariants.{FcCommittee, FcBitsShort, FcEmpty}
use Rattle.beacon_types.specs.declared.attestation_data.AttestationData.{AttestationData}
use Rattle.beacon_types.specs.declared.attestation.Attestation.{Attestation}
use Rattle.spec_state.specs.declared.plain.PlainState.{PlainState}
use Rattle.spec_state.specs.Accessors.{get_committee_count_per_slot, get_beacon_committee, get_attesting_indices}
use Rattle.spec_blocks.specs.Checks.{check, ◌>>◌}
use Rattle.spec_fork_choice.specs.Store.{Store}
use Rattle.spec_fork_choice.specs.StoreTargetCheckpointState.{store_target_checkpoint_state}
use Rattle.spec_fork_choice.specs.ValidateOnAttestation.{validate_on_attestation}
use Rattle.spec_fork_choice.specs.UpdateLatestMessages.{update_latest_messages}

-- the number of a vote's committee among those of its epoch
unfoldable pub committee_number : PlainState → AttestationData → ℕ
committee_number state content =
    content.slot % state.preset.slots_per_epoch * get_committee_count_per_slot state content.target.epoch + content.index

-- the checks of the vote's committee in its target's state: the epoch has such a committee, and the bits are at least as
-- many as its members; bits behind them are ignored. The index isn't compared with the slot's number of committees
unfoldable pub check_target_committee : PlainState → Attestation → Outcome (Unit {0})
check_target_committee state attestation = do
  let content = attestation.content
  check (nat_lt (committee_number state content) (get_committee_count_per_slot state content.target.epoch * state.preset.slots_per_epoch)) FcCommittee
  check (leb (length (get_beacon_committee state content.slot content.index)) (length attestation.aggregation_bits)) FcBitsShort

-- on_attestation(store, attestation, is_from_block). Of is_valid_indexed_attestation there is left that somebody attested:
-- the members of a committee are in the registry, each once
unfoldable pub on_attestation : Store → Attestation → Bool → Outcome Store
on_attestation store attestation is_from_block = do
  validate_on_attestation store attestation is_from_block
  target_state ← store_target_checkpoint_state store attestation.content.target
  check_target_committee target_state attestation
  let attesting_indices = get_attesting_indices target_state attestation.content attestation.aggregation_bits
  check (not (length attesting_indices == 0)) FcEmpty
  done (update_latest_messages store attesting_indices attestation)
