-- The attestations of blocks as they are added to the votes: each with its place and its attesters.
use Rattle.std.specs.Prelude.{ℕ, ◌+◌, List, [], ◌∷◌, ◌++◌, map}
use Rattle.beacon_types.specs.declared.attestation.Attestation.{Attestation}
use Rattle.spec_state.specs.declared.plain.PlainState.{PlainState}
use Rattle.spec_state.specs.Accessors.{get_attesting_indices}
use Rattle.spec_forensics.specs.Histories.{AcceptedBlock}
use Rattle.forensics.specs.Carried.{Carried}

-- the attesters of an attestation in a state
unfoldable pub attesters_in : PlainState → Attestation → List ℕ
attesters_in state attestation = get_attesting_indices state attestation.content attestation.aggregation_bits

-- an attestation at a position of a block, with its attesters
unfoldable pub carried_at : ℕ → ℕ → List ℕ → ℕ → Attestation → List ℕ → Carried
carried_at which event root position attestation attesters = record {
  which = which;
  event = event;
  position = position;
  block_root = root;
  content = attestation.content;
  attesters = attesters;
}

-- attestations from a position of a block on, each with its attesters
unfoldable pub carried_from : ℕ → ℕ → List ℕ → ℕ → List Attestation → List (List ℕ) → List Carried
carried_from which event root position [] lists = []
carried_from which event root position (attestation ∷ attestations) [] = []
carried_from which event root position (attestation ∷ attestations) (attesters ∷ lists) =
    carried_at which event root position attestation attesters ∷ carried_from which event root (position + 1) attestations lists

-- those of a block, and of a history
unfoldable pub carried_by_block : ℕ → AcceptedBlock → List Carried
carried_by_block which b = carried_from which b.event b.root 0 b.block.body.attestations (map (attesters_in b.state) b.block.body.attestations)

unfoldable pub carried_by : ℕ → List AcceptedBlock → List Carried
carried_by which [] = []
carried_by which (b ∷ earlier) = carried_by which earlier ++ carried_by_block which b
