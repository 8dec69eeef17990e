-- A flag a validator: whether it attests in one of some attestations.
use Rattle.std.specs.Prelude.{◌≡◌, ℕ, ◌+◌, Bool, false, not, List, ◌∷◌, map, filter, drop, slice_index_or}
use Rattle.std.specs.List.{list_any}
use Rattle.beacon_types.specs.declared.pending_attestation.PendingAttestation.{PendingAttestation}
use Rattle.spec_state.specs.declared.plain.PlainState.{PlainState}
use Rattle.spec_state.specs.Misc.{effective_balance}
use Rattle.spec_state.specs.Accessors.{indices_from}
use Rattle.spec_epochs.specs.Each.{validator_indices}
use Rattle.spec_epochs.specs.Helpers.{attests}

-- whether each validator attests in one of the attestations, in order of index
unfoldable pub attester_flags : PlainState → List PendingAttestation → List Bool
attester_flags state attestations = map (λ index. list_any (attests state index) attestations) (validator_indices state)

-- those from an index on who are not slashed and whose flag is set
unfoldable pub flagged_from : PlainState → List Bool → ℕ → List ℕ
flagged_from state flags index = filter (λ i. slice_index_or flags i false) (indices_from (λ v. not v.slashed) index (drop index state.validators))

-- those who are not slashed and whose flag is set
unfoldable pub flagged : PlainState → List Bool → List ℕ
flagged state flags = flagged_from state flags 0

-- the validator with an index is none of them, or the first of those from it on, and has this effective balance
abbrev pub IsPassedOver : PlainState → List Bool → ℕ → Type 0
IsPassedOver state flags index = flagged_from state flags index ≡ flagged_from state flags (index + 1)

abbrev pub IsTaken : PlainState → List Bool → ℕ → ℕ → Type 0
IsTaken state flags index balance = (balance ≡ effective_balance state.validators index) × (flagged_from state flags index ≡ index ∷ flagged_from state flags (index + 1))
