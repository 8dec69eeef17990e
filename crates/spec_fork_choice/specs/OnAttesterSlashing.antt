-- on_attester_slashing, with which later releases of the published text leave validators that voted for two things out of fork
-- choice (fork-choice.md, "on_attester_slashing"). Signatures are off.
use Rattle.std.specs.Prelude.{ℕ, fold, if◌then◌else◌}
use Rattle.bc_words.specs.Indices.{with_index}
use Rattle.bc_words.specs.Outcome.{Outcome, done, ◌>>=◌}
use Rattle.bc_words.specs.declared.refusal.Refusal.TheVariants.{AsData, IndexRange}
use Rattle.beacon_types.specs.Slashable.{is_slashable_attestation_data}
use Rattle.beacon_types.specs.declared.attester_slashing.AttesterSlashing.{AttesterSlashing}
use Rattle.spec_blocks.specs.Checks.{check, ◌>>◌}
use Rattle.spec_blocks.specs.IsValidIndexedAttestation.{is_valid_indexed_attestation}
use Rattle.spec_blocks.specs.ProcessAttesterSlashing.{in_both}
use Rattle.spec_fork_choice.specs.Store.{Store, block_of, is_equivocating}
use Rattle.spec_fork_choice.specs.StoreTargetCheckpointState.{kept_or}

-- store.equivocating_indices.add(index)
unfoldable pub with_equivocating : Store → ℕ → Store
with_equivocating store index =
    if is_equivocating store index then store else record store { equivocating_indices = with_index store.equivocating_indices index }

-- on_attester_slashing(store, attester_slashing). The registry is that of the justified root's own state, which isn't taken on to
-- the checkpoint's slot; the root is a kept one
unfoldable pub on_attester_slashing : Store → AttesterSlashing → Outcome Store
on_attester_slashing store attester_slashing = do
  let attestation_1 = attester_slashing.attestation_1
  let attestation_2 = attester_slashing.attestation_2
  -- the votes are slashable together, in this order
  check (is_slashable_attestation_data attestation_1.content attestation_2.content) AsData
  justified ← kept_or IndexRange (block_of store.blocks store.justified_checkpoint.root)
  is_valid_indexed_attestation justified.state attestation_1
  is_valid_indexed_attestation justified.state attestation_2
  -- each validator that cast both is equivocating from then on. Where there is none nothing changes
  done (fold with_equivocating store (in_both attestation_1.attesting_indices attestation_2.attesting_indices))
