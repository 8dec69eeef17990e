-- Helper functions of epoch processing (beacon-chain.md, "Epoch processing", "Helper functions"), in the published order.
-- The published field `data` of a pending attestation is called content.
use Rattle.std.specs.Prelude.{ℕ, Bool, not, List, filter, ◌==◌, if◌then◌else◌}
use Rattle.std.specs.List.{list_any}
use Rattle.bc_words.specs.Outcome.{Outcome}
use Rattle.beacon_types.specs.declared.pending_attestation.PendingAttestation.{PendingAttestation}
use Rattle.spec_state.specs.declared.plain.PlainState.{PlainState}
use Rattle.beacon_types.specs.Equality.{same_root}
use Rattle.spec_state.specs.Accessors.{get_current_epoch, get_block_root, get_block_root_at_slot, indices_from, get_attesting_indices, get_total_balance}
use Rattle.spec_epochs.specs.Each.{is_among}

-- get_matching_source_attestations: the epoch is the current or the previous one
unfoldable pub get_matching_source_attestations : PlainState → ℕ → List PendingAttestation
get_matching_source_attestations state epoch =
    if epoch == get_current_epoch state then state.current_epoch_attestations else state.previous_epoch_attestations

-- get_matching_target_attestations
unfoldable pub get_matching_target_attestations : PlainState → ℕ → List PendingAttestation
get_matching_target_attestations state epoch =
    filter (λ a. same_root a.content.target.root (get_block_root state epoch)) (get_matching_source_attestations state epoch)

-- get_matching_head_attestations
unfoldable pub get_matching_head_attestations : PlainState → ℕ → List PendingAttestation
get_matching_head_attestations state epoch =
    filter (λ a. same_root a.content.beacon_block_root (get_block_root_at_slot state a.content.slot)) (get_matching_target_attestations state epoch)

-- whether a validator attests in an attestation
unfoldable pub attests : PlainState → ℕ → PendingAttestation → Bool
attests state index a = is_among index (get_attesting_indices state a.content a.aggregation_bits)

-- get_unslashed_attesting_indices: a set, here in order of index
unfoldable pub get_unslashed_attesting_indices : PlainState → List PendingAttestation → List ℕ
get_unslashed_attesting_indices state attestations =
    filter (λ index. list_any (attests state index) attestations) (indices_from (λ v. not v.slashed) 0 state.validators)

-- get_attesting_balance
unfoldable pub get_attesting_balance : PlainState → List PendingAttestation → Outcome ℕ
get_attesting_balance state attestations = get_total_balance state (get_unslashed_attesting_indices state attestations)
