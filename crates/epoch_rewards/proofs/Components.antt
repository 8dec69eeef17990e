-- The component deltas of those who have a vote right are those of the attestations.
use Rattle.std.proofs.Common.{◌≡◌, ℕ, refl, ap, ◌∙◌, List}
use Rattle.beacon_types.specs.declared.pending_attestation.PendingAttestation.{PendingAttestation}
use Rattle.spec_state.specs.declared.plain.PlainState.{PlainState}
use Rattle.spec_epochs.specs.Helpers.{get_unslashed_attesting_indices}
use Rattle.spec_epochs.specs.GetAttestationComponentDeltas.{get_attestation_component_deltas}
use Rattle.epoch_rewards.specs.declared.matching.Vote.{Vote}
use Rattle.epoch_rewards.specs.declared.table.Status.{Status}
use Rattle.epoch_rewards.specs.inside.Votes.{matching}
use Rattle.epoch_rewards.specs.inside.Marks.{flagged}
use Rattle.epoch_rewards.specs.inside.Statuses.{statuses_of, flags_of}
use Rattle.epoch_rewards.proofs.Columns.{voters_are}
use Rattle.epoch_rewards.specs.inside.Components.{component_reward, component_penalty, needed_balance, component_deltas}

by_attesters : (state : PlainState) (attestations : List PendingAttestation) → component_deltas state (get_unslashed_attesting_indices state attestations) ≡ get_attestation_component_deltas state attestations
unfolding component_deltas component_reward component_penalty needed_balance get_attestation_component_deltas
by_attesters state attestations = refl

pub component_deltas_are : (state : PlainState) (epoch : ℕ) (statuses : List Status) (vote : Vote) → statuses ≡ statuses_of state epoch → component_deltas state (flagged state (flags_of vote statuses)) ≡ get_attestation_component_deltas state (matching state vote epoch)
component_deltas_are state epoch statuses vote are = ap (component_deltas state) (voters_are state epoch statuses are vote) ∙ by_attesters state (matching state vote epoch)
