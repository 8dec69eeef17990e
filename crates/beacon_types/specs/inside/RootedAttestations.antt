-- The roots that an attestation of a block is held with, and the attestation as it waits in the state.
use Rattle.std.specs.Prelude.{◌≡◌, ℕ, List}
use Rattle.beacon_types.specs.Blocks.{attestation_codec}
use Rattle.beacon_types.specs.declared.attestation.Attestation.{Attestation}
use Rattle.beacon_types.specs.declared.pending_attestation.PendingAttestation.{PendingAttestation}
use Rattle.beacon_types.specs.inside.AttestationChunks.{vote_root}

-- these are the root over an attestation's bits and its data, and its own
pub record HasRoots (attestation : Attestation) (vote root : List ℕ) : Type 0 where
  pub vote_is : vote ≡ vote_root attestation
  pub root_is : root ≡ attestation_codec.hash_tree_root attestation

-- the attestation as it waits in the state, included so many slots behind its own by this proposer
abbrev pub pending_of : Attestation → ℕ → ℕ → PendingAttestation
pending_of attestation inclusion_delay proposer_index =
    record { aggregation_bits = attestation.aggregation_bits; content = attestation.content; inclusion_delay = inclusion_delay; proposer_index = proposer_index }
