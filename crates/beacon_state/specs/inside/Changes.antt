-- Longer changes of a state, one list at a time: an item more, refused where the list is full, another one at a place, and more items.
use Rattle.std.specs.Prelude.{ℕ, List, [], ◌++◌, slice_set}
use Rattle.bc_words.specs.Outcome.{Outcome, bind, done, checked_push}
use Rattle.beacon_types.specs.declared.eth1_data.Eth1Data.{Eth1Data}
use Rattle.beacon_types.specs.declared.validator.Validator.{Validator}
use Rattle.beacon_types.specs.declared.pending_attestation.PendingAttestation.{PendingAttestation}
use Rattle.spec_state.specs.declared.plain.PlainState.{PlainState}
use Rattle.spec_state.specs.States.{votes_limit, attestations_limit}

abbrev pub one_more_historical_root : PlainState → List ℕ → Outcome PlainState
one_more_historical_root s root = bind (checked_push s.preset.historical_roots_limit s.historical_roots root) (λ items. done (record s { historical_roots = items }))

abbrev pub one_more_vote : PlainState → Eth1Data → Outcome PlainState
one_more_vote s vote = bind (checked_push (votes_limit s.preset) s.eth1_data_votes vote) (λ items. done (record s { eth1_data_votes = items }))

abbrev pub one_more_validator : PlainState → Validator → Outcome PlainState
one_more_validator s validator = bind (checked_push s.preset.validator_registry_limit s.validators validator) (λ items. done (record s { validators = items }))

abbrev pub one_more_balance : PlainState → ℕ → Outcome PlainState
one_more_balance s balance = bind (checked_push s.preset.validator_registry_limit s.balances balance) (λ items. done (record s { balances = items }))

abbrev pub with_previous_attestation_at : PlainState → ℕ → PendingAttestation → PlainState
with_previous_attestation_at s i attestation = record s { previous_epoch_attestations = slice_set s.previous_epoch_attestations i attestation }

abbrev pub with_current_attestation_at : PlainState → ℕ → PendingAttestation → PlainState
with_current_attestation_at s i attestation = record s { current_epoch_attestations = slice_set s.current_epoch_attestations i attestation }

-- more attestations behind the last
abbrev pub with_more_previous_attestations : PlainState → List PendingAttestation → PlainState
with_more_previous_attestations s attestations = record s { previous_epoch_attestations = s.previous_epoch_attestations ++ attestations }

abbrev pub with_more_current_attestations : PlainState → List PendingAttestation → PlainState
with_more_current_attestations s attestations = record s { current_epoch_attestations = s.current_epoch_attestations ++ attestations }

-- the attestations of the current epoch are those of the previous one
abbrev pub with_rotated_attestations : PlainState → PlainState
with_rotated_attestations s = record s { previous_epoch_attestations = s.current_epoch_attestations; current_epoch_attestations = [] }
