-- The columns of a table: who has a vote right, and the inclusion of each.
use Rattle.std.proofs.Common.{◌≡◌, ℕ, false, List, Some, None, get_or, slice_get, refl, sym, ap, ◌∙◌}
use Rattle.std.proofs.Math.ListN.{get_or-map}
use Rattle.std.proofs.lemmas.List.{get_or_past}
use Rattle.std.proofs.lemmas.Option.{get_or_from_slice_get}
use Rattle.std.proofs.lemmas.Simd.{map-map}
use Rattle.spec_state.specs.declared.plain.PlainState.{PlainState}
use Rattle.spec_epochs.specs.Each.{validator_indices}
use Rattle.spec_epochs.specs.Helpers.{get_matching_source_attestations, get_unslashed_attesting_indices}
use Rattle.epoch_rewards.specs.declared.matching.Vote.{Vote}
use Rattle.epoch_rewards.specs.declared.matching.Vote.TheVariants.{Source, Target, Head}
use Rattle.epoch_rewards.specs.declared.table.Status.{Status}
use Rattle.epoch_rewards.specs.inside.Votes.{matching}
use Rattle.epoch_rewards.specs.inside.Marks.{attester_flags, flagged}
use Rattle.epoch_rewards.specs.inside.Inclusions.{inclusion_entries}
use Rattle.epoch_rewards.specs.inside.Statuses.{status_of, statuses_of, has_vote, flags_of, entries_of, absent}
use Rattle.epoch_rewards.proofs.Flags.{flagged_are}
use Rattle.epoch_rewards.proofs.Places.{past}

-- ---- reading a status

pub status_some : (statuses : List Status) (index : ℕ) (status : Status) → Some status ≡ slice_get statuses index → status ≡ get_or statuses index absent
status_some statuses index status e = sym (get_or_from_slice_get statuses index status absent (sym e))

pub status_none : (statuses : List Status) (index : ℕ) → None ≡ slice_get statuses index → absent ≡ get_or statuses index absent
status_none statuses index e = sym (get_or_past statuses index absent (past statuses index e))

pub ruleset status_read = (status_some, status_none)

-- ---- an item of a column is that of the status there

absent_has_none : (vote : Vote) → has_vote vote absent ≡ false
unfolding has_vote absent
absent_has_none Source = refl
absent_has_none Target = refl
absent_has_none Head = refl

pub flag_of_status : (vote : Vote) (statuses : List Status) (index : ℕ) → has_vote vote (get_or statuses index absent) ≡ get_or (flags_of vote statuses) index false
unfolding flags_of
flag_of_status vote statuses index = sym (get_or-map (has_vote vote) statuses index absent) ∙ ap (get_or (flags_of vote statuses) index) (absent_has_none vote)

pub entry_of_status : (statuses : List Status) (index : ℕ) → (get_or statuses index absent).inclusion ≡ get_or (entries_of statuses) index None
unfolding entries_of absent
entry_of_status statuses index = sym (get_or-map (λ status. status.inclusion) statuses index absent)

-- ---- the columns of an epoch's table

has_vote_is : (state : PlainState) (vote : Vote) (epoch : ℕ) → flags_of vote (statuses_of state epoch) ≡ attester_flags state (matching state vote epoch)
unfolding flags_of statuses_of attester_flags matching has_vote status_of
has_vote_is state Source epoch = map-map (has_vote Source) (status_of state epoch) (validator_indices state)
has_vote_is state Target epoch = map-map (has_vote Target) (status_of state epoch) (validator_indices state)
has_vote_is state Head epoch = map-map (has_vote Head) (status_of state epoch) (validator_indices state)

module _ (state : PlainState) (epoch : ℕ) (statuses : List Status) (are : statuses ≡ statuses_of state epoch) where
  pub flags_are : (vote : Vote) → flags_of vote statuses ≡ attester_flags state (matching state vote epoch)
  flags_are vote = ap (flags_of vote) are ∙ has_vote_is state vote epoch

  -- those who have a vote right and aren't slashed are the published ones
  pub voters_are : (vote : Vote) → flagged state (flags_of vote statuses) ≡ get_unslashed_attesting_indices state (matching state vote epoch)
  voters_are vote = ap (flagged state) (flags_are vote) ∙ flagged_are state (matching state vote epoch)

  pub entries_are : entries_of statuses ≡ inclusion_entries state (get_matching_source_attestations state epoch)
  unfolding entries_of statuses_of inclusion_entries status_of
  entries_are = ap entries_of are ∙ map-map (λ (status : Status). status.inclusion) (status_of state epoch) (validator_indices state)
