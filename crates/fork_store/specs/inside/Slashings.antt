-- The checks of an attester slashing, one behind the other.
use Rattle.bc_words.specs.Outcome.{Outcome, ◌>>=◌}
use Rattle.bc_words.specs.declared.refusal.Refusal.TheVariants.{AsData, IndexRange}
use Rattle.beacon_types.specs.Slashable.{is_slashable_attestation_data}
use Rattle.beacon_types.specs.declared.attester_slashing.AttesterSlashing.{AttesterSlashing}
use Rattle.spec_state.specs.declared.plain.PlainState.{PlainState}
use Rattle.spec_blocks.specs.Checks.{check, ◌>>◌}
use Rattle.spec_blocks.specs.IsValidIndexedAttestation.{is_valid_indexed_attestation}
use Rattle.spec_fork_choice.specs.Store.{Store, block_of}
use Rattle.spec_fork_choice.specs.StoreTargetCheckpointState.{kept_or}

-- its indices by the registry of a state; the same by that of the justified root's own state; and its votes before that
unfoldable pub check_indices : PlainState → AttesterSlashing → Outcome (Unit {0})
check_indices state slashing = do
  is_valid_indexed_attestation state slashing.attestation_1
  is_valid_indexed_attestation state slashing.attestation_2

unfoldable pub check_registered : Store → AttesterSlashing → Outcome (Unit {0})
check_registered store slashing = do
  justified ← kept_or IndexRange (block_of store.blocks store.justified_checkpoint.root)
  check_indices justified.state slashing

unfoldable pub judged_slashing : Store → AttesterSlashing → Outcome (Unit {0})
judged_slashing store slashing = do
  check (is_slashable_attestation_data slashing.attestation_1.content slashing.attestation_2.content) AsData
  check_registered store slashing
