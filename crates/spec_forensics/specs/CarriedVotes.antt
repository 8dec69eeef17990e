-- The votes that blocks carry.
use Rattle.std.specs.Prelude.{◌≡◌, ℕ, ◌<◌, ◌⊎◌, List, [], ◌∷◌, ◌++◌, map, filter, length, nat_lt}
use Rattle.std.specs.List.{flat_map, enumerate_from}
use Rattle.bc_words.specs.Outcome.{done}
use Rattle.beacon_types.specs.declared.attestation.Attestation.{Attestation}
use Rattle.spec_state.specs.declared.plain.PlainState.{PlainState}
use Rattle.spec_state.specs.Misc.{compute_epoch_at_slot}
use Rattle.spec_state.specs.Accessors.{get_current_epoch, get_previous_epoch, get_committee_count_per_slot, get_attesting_indices}
use Rattle.spec_blocks.specs.ProcessAttestation.{process_attestation}
use Rattle.spec_forensics.specs.declared.vote.Vote.{Vote}
use Rattle.spec_forensics.specs.Histories.{AcceptedBlock}

-- the votes of an attestation at a position of a block: one for each attester that the genesis registry has. Its attesters are
-- those in the state that processed it; the state behind the block has the same, since no operation of a block changes the
-- committees of the epochs that it takes attestations of
unfoldable pub votes_of_attestation : PlainState → ℕ → AcceptedBlock → ℕ × Attestation → List Vote
votes_of_attestation genesis which b (position, attestation) =
    map (λ validator. record { which = which; event = b.event; position = position; block_root = b.root; validator = validator; content = attestation.content })
    (filter (λ validator. nat_lt validator (length genesis.validators)) (get_attesting_indices b.state attestation.content attestation.aggregation_bits))

-- the votes of a block, attestation by attestation
unfoldable pub votes_of_block : PlainState → ℕ → AcceptedBlock → List Vote
votes_of_block genesis which b = flat_map (votes_of_attestation genesis which b) (enumerate_from 0 b.block.body.attestations)

-- the votes of a history in their order. A block that was accepted again carries its votes again
unfoldable pub carried_votes : PlainState → ℕ → List AcceptedBlock → List Vote
carried_votes genesis which [] = []
carried_votes genesis which (b ∷ earlier) = carried_votes genesis which earlier ++ votes_of_block genesis which b

-- the votes of two histories on one genesis, those of the first before those of the second
unfoldable pub all_votes : PlainState → List AcceptedBlock → List AcceptedBlock → List Vote
all_votes genesis first second = carried_votes genesis 0 first ++ carried_votes genesis 1 second

-- An attestation was processed by a state that has the attesters that another state has. It is of that state's previous or current
-- epoch, and of one of the committees of its slot there
pub record WasProcessed (state : PlainState) (attestation : Attestation) : Type 0 where
  pub by : PlainState
  pub next : PlainState
  pub proposer : ℕ
  pub processed : process_attestation by attestation proposer ≡ done next
  pub attesters : get_attesting_indices by attestation.content attestation.aggregation_bits ≡ get_attesting_indices state attestation.content attestation.aggregation_bits
  pub recent : (compute_epoch_at_slot state.preset attestation.content.slot ≡ get_previous_epoch state) ⊎ (compute_epoch_at_slot state.preset attestation.content.slot ≡ get_current_epoch state)
  pub index : attestation.content.index < get_committee_count_per_slot state (compute_epoch_at_slot state.preset attestation.content.slot)
