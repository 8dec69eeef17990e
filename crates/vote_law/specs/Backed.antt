-- What stands behind the attestations that wait in a state for the end of an epoch: their source is the checkpoint that was
-- justified while their epoch ran, and a block carried them.
use Rattle.std.specs.Prelude.{◌≡◌, ℕ, ◌<◌, ◌≤◌, ◌⊎◌, List, map}
use Rattle.std.specs.List.{AllByRecursion}
use Rattle.beacon_types.specs.declared.attestation_data.AttestationData.{AttestationData}
use Rattle.beacon_types.specs.declared.checkpoint.Checkpoint.{Checkpoint}
use Rattle.beacon_types.specs.declared.pending_attestation.PendingAttestation.{PendingAttestation}
use Rattle.beacon_types.specs.declared.attestation.Attestation.{Attestation}
use Rattle.spec_state.specs.declared.plain.PlainState.{PlainState}
use Rattle.spec_state.specs.Misc.{compute_epoch_at_slot}
use Rattle.spec_state.specs.Accessors.{get_current_epoch, get_previous_epoch, get_committee_count_per_slot, get_attesting_indices}
use Rattle.ffg_law.specs.Links.{IsOneOf}

-- Votes that blocks carry: attestation data, and the validators that attested it
abbrev pub Votes : Type 1
Votes = AttestationData → List ℕ → Type 0

-- A pending attestation of an epoch stands for a carried vote, from the checkpoint that was justified in the epoch
pub record IsBackedBy (votes : Votes) (state : PlainState) (epoch : ℕ) (justified : Checkpoint) (a : PendingAttestation) : Type 0 where
  pub slot_epoch : compute_epoch_at_slot state.preset a.content.slot ≡ epoch
  pub target : a.content.target.epoch ≡ epoch
  pub index : a.content.index < get_committee_count_per_slot state epoch
  pub source : a.content.source ≡ justified
  pub carried : votes a.content (get_attesting_indices state a.content a.aggregation_bits)

-- So do all of a state. In the first two epochs nothing is justified but genesis
pub record IsBacked (votes : Votes) (state : PlainState) : Type 0 where
  pub current : AllByRecursion (IsBackedBy votes state (get_current_epoch state) state.current_justified_checkpoint) state.current_epoch_attestations
  pub previous : AllByRecursion (IsBackedBy votes state (get_previous_epoch state) state.previous_justified_checkpoint) state.previous_epoch_attestations
  pub early : get_current_epoch state ≤ 1 → state.previous_justified_checkpoint ≡ state.current_justified_checkpoint

-- A vote of a list of attestations: its data is that of an attestation, of the previous or the current epoch of a state, which gives
-- its attesters
pub record IsListed (attestations : List Attestation) (state : PlainState) (voted : AttestationData) (attesters : List ℕ) : Type 0 where
  pub attestation : Attestation
  pub listed : IsOneOf attestation attestations
  pub content : attestation.content ≡ voted
  pub recent : (compute_epoch_at_slot state.preset voted.slot ≡ get_previous_epoch state) ⊎ (compute_epoch_at_slot state.preset voted.slot ≡ get_current_epoch state)
  pub attest : get_attesting_indices state voted attestation.aggregation_bits ≡ attesters

-- votes with those of a block's attestations, by the attesters that the state behind the block gives
abbrev pub Adding : Votes → List Attestation → PlainState → Votes
Adding votes attestations behind = λ (voted : AttestationData) (attesters : List ℕ). votes voted attesters ⊎ IsListed attestations behind voted attesters

-- One vote
pub record CarriedVote : Type 0 where
  pub voted : AttestationData
  pub attesters : List ℕ

-- the votes of a list
abbrev pub AreAmong : List CarriedVote → Votes
AreAmong votes = λ (voted : AttestationData) (attesters : List ℕ). IsOneOf (record { voted = voted; attesters = attesters }) votes

-- the list of a block's votes, by the attesters that the state behind the block gives
unfoldable pub votes_of : List Attestation → PlainState → List CarriedVote
votes_of attestations behind =
    map (λ attestation. record { voted = attestation.content; attesters = get_attesting_indices behind attestation.content attestation.aggregation_bits }) attestations
