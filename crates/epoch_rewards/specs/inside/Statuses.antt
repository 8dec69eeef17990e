-- How a validator attests in an epoch: with which votes right, and how it was first included.
use Rattle.std.specs.Prelude.{ℕ, Bool, true, false, ◌||◌, List, Option, None, map}
use Rattle.std.specs.List.{list_any}
use Rattle.std.specs.Option.{option_map}
use Rattle.beacon_types.specs.declared.pending_attestation.PendingAttestation.{PendingAttestation}
use Rattle.spec_state.specs.declared.plain.PlainState.{PlainState}
use Rattle.spec_epochs.specs.Each.{validator_indices}
use Rattle.spec_epochs.specs.Helpers.{attests, get_matching_source_attestations, get_matching_target_attestations, get_matching_head_attestations}
use Rattle.spec_epochs.specs.GetInclusionDelayDeltas.{inclusion}
use Rattle.epoch_rewards.specs.declared.inclusions.Inclusion.{Inclusion}
use Rattle.epoch_rewards.specs.declared.matching.Vote.{Vote}
use Rattle.epoch_rewards.specs.declared.matching.Vote.TheVariants.{Source, Target, Head}
use Rattle.epoch_rewards.specs.declared.table.Status.{Status}
use Rattle.epoch_rewards.specs.declared.table.Shown.{Shown}
use Rattle.epoch_rewards.specs.inside.Votes.{counts_for}
use Rattle.epoch_rewards.specs.inside.Inclusions.{entry_of, better}

-- whether a validator attests in one of the epoch's attestations that have the source, the target and the head right, and its
-- first inclusion of the least delay among those with the source right
unfoldable pub status_of : PlainState → ℕ → ℕ → Status
status_of state epoch index = record {
  source = list_any (attests state index) (get_matching_source_attestations state epoch);
  target = list_any (attests state index) (get_matching_target_attestations state epoch);
  head = list_any (attests state index) (get_matching_head_attestations state epoch);
  inclusion = option_map entry_of (inclusion state (get_matching_source_attestations state epoch) index);
}

-- the same of each validator, in order of index
unfoldable pub statuses_of : PlainState → ℕ → List Status
statuses_of state epoch = map (status_of state epoch) (validator_indices state)

-- ---- the columns of a table

-- whether a status has a vote right
unfoldable pub has_vote : Vote → Status → Bool
has_vote Source status = status.source
has_vote Target status = status.target
has_vote Head status = status.head

-- whether each has a vote right
unfoldable pub flags_of : Vote → List Status → List Bool
flags_of vote statuses = map (has_vote vote) statuses

-- the inclusion of each
unfoldable pub entries_of : List Status → List (Option Inclusion)
entries_of statuses = map (λ status. status.inclusion) statuses

-- ---- one attestation

-- one that attests in no attestation
unfoldable pub absent : Status
absent = record { source = false; target = false; head = false; inclusion = None }

-- what an attestation shows of its attesters, where the root is that of the epoch's first block
unfoldable pub shown_by : PlainState → List ℕ → PendingAttestation → Shown
shown_by state root a = record { target = counts_for state Target root a; head = counts_for state Head root a; inclusion = entry_of a }

-- a status with what an attestation shows
unfoldable pub noted : Status → Shown → Status
noted status shown = record {
  source = true;
  target = status.target || shown.target;
  head = status.head || shown.head;
  inclusion = better status.inclusion shown.inclusion;
}

-- a flag with what an attestation shows: whether the target is right
unfoldable pub target_noted : Bool → Shown → Bool
target_noted flag shown = flag || shown.target
