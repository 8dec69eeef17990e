-- An inclusion a validator: the first of the least delay among the attestations in which it attests.
use Rattle.std.specs.Prelude.{ℕ, List, Option, Some, None, map, leb, if◌then◌else◌}
use Rattle.std.specs.Option.{option_map}
use Rattle.beacon_types.specs.declared.pending_attestation.PendingAttestation.{PendingAttestation}
use Rattle.spec_state.specs.declared.plain.PlainState.{PlainState}
use Rattle.spec_state.specs.Accessors.{get_attesting_indices}
use Rattle.spec_epochs.specs.Each.{validator_indices}
use Rattle.spec_epochs.specs.GetInclusionDelayDeltas.{inclusion}
use Rattle.epoch_rewards.specs.declared.inclusions.Inclusion.{Inclusion}

-- what is paid for an attestation's inclusion, and to whom
unfoldable pub entry_of : PendingAttestation → Inclusion
entry_of a = record { delay = a.inclusion_delay; proposer = a.proposer_index }

-- the inclusion of each validator, in order of index
unfoldable pub inclusion_entries : PlainState → List PendingAttestation → List (Option Inclusion)
inclusion_entries state attestations = map (λ index. option_map entry_of (inclusion state attestations index)) (validator_indices state)

-- an inclusion, or the earlier one where its delay is no greater
unfoldable pub better : Option Inclusion → Inclusion → Option Inclusion
better None new = Some new
better (Some kept) new = if leb kept.delay new.delay then Some kept else Some new

-- those who attest in an attestation
abbrev pub attesters_of : PlainState → PendingAttestation → List ℕ
attesters_of state a = get_attesting_indices state a.content a.aggregation_bits
