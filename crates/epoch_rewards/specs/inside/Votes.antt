-- Which votes of an attestation are right, one attestation at a time.
use Rattle.std.specs.Prelude.{ℕ, Bool, true, ◌&&◌, List, filter, drop}
use Rattle.beacon_types.specs.declared.pending_attestation.PendingAttestation.{PendingAttestation}
use Rattle.spec_state.specs.declared.plain.PlainState.{PlainState}
use Rattle.spec_state.specs.Genesis.{same_root}
use Rattle.spec_state.specs.Accessors.{get_block_root_at_slot}
use Rattle.spec_epochs.specs.Helpers.{get_matching_source_attestations, get_matching_target_attestations, get_matching_head_attestations}
use Rattle.epoch_rewards.specs.declared.matching.Vote.{Vote}
use Rattle.epoch_rewards.specs.declared.matching.Vote.TheVariants.{Source, Target, Head}

-- whether an attestation has this vote right, where the root is that of the epoch's first block
unfoldable pub counts_for : PlainState → Vote → List ℕ → PendingAttestation → Bool
counts_for state Source root a = true
counts_for state Target root a = same_root a.content.target.root root
counts_for state Head root a = same_root a.content.target.root root && same_root a.content.beacon_block_root (get_block_root_at_slot state a.content.slot)

-- the attestations of an epoch that have a vote right
unfoldable pub matching : PlainState → Vote → ℕ → List PendingAttestation
matching state Source epoch = get_matching_source_attestations state epoch
matching state Target epoch = get_matching_target_attestations state epoch
matching state Head epoch = get_matching_head_attestations state epoch

-- those of an epoch from a place on that have a vote right, where the root is that of the epoch's first block
abbrev pub right_from : PlainState → Vote → List ℕ → ℕ → ℕ → List PendingAttestation
right_from state vote root epoch i = filter (counts_for state vote root) (drop i (get_matching_source_attestations state epoch))
