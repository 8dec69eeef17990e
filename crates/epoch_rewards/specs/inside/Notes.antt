-- One pass over attestations, which notes of each attester what its attestation shows.
use Rattle.std.specs.Prelude.{ℕ, List, [], ◌∷◌, drop, slice_set, slice_index_or}
use Rattle.beacon_types.specs.declared.pending_attestation.PendingAttestation.{PendingAttestation}
use Rattle.spec_state.specs.declared.plain.PlainState.{PlainState}
use Rattle.spec_epochs.specs.Helpers.{get_matching_source_attestations}
use Rattle.epoch_rewards.specs.declared.table.Shown.{Shown}
use Rattle.epoch_rewards.specs.inside.Inclusions.{attesters_of}
use Rattle.epoch_rewards.specs.inside.Statuses.{shown_by}

-- what is kept of a validator of which nothing was noted, and what is kept with what an attestation shows
module _ {P : Type 0} (blank : P) (noting : P → Shown → P) where
  -- what is kept of each, with what an attestation shows of some validators
  unfoldable pub noted_each : List P → List ℕ → Shown → List P
  noted_each places [] shown = places
  noted_each places (index ∷ indices) shown = noted_each (slice_set places index (noting (slice_index_or places index blank) shown)) indices shown

  -- what is kept of each, with what some attestations show, in order
  unfoldable pub all_noted : PlainState → List ℕ → List P → List PendingAttestation → List P
  all_noted state root places [] = places
  all_noted state root places (a ∷ attestations) = all_noted state root (noted_each places (attesters_of state a) (shown_by state root a)) attestations

  -- the same with those of an epoch from a place on
  abbrev pub noted_from : PlainState → List ℕ → List P → ℕ → ℕ → List P
  noted_from state root places epoch i = all_noted state root places (drop i (get_matching_source_attestations state epoch))
