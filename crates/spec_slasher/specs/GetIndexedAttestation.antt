-- get_indexed_attestation (beacon-chain.md, "Beacon state accessors").
use Rattle.std.specs.Prelude.{ℕ, List, [], ◌∷◌}
use Rattle.bc_words.specs.Indices.{with_index}
use Rattle.beacon_types.specs.declared.indexed_attestation.IndexedAttestation.{IndexedAttestation}
use Rattle.beacon_types.specs.declared.attestation.Attestation.{Attestation}
use Rattle.spec_state.specs.declared.plain.PlainState.{PlainState}
use Rattle.spec_state.specs.Accessors.{get_attesting_indices}

-- the indices of a list, sorted and each once
unfoldable pub in_order : List ℕ → List ℕ
in_order [] = []
in_order (index ∷ indices) = with_index (in_order indices) index

-- get_indexed_attestation(state, attestation)
unfoldable pub get_indexed_attestation : PlainState → Attestation → IndexedAttestation
get_indexed_attestation state attestation = record {
  attesting_indices = in_order (get_attesting_indices state attestation.content attestation.aggregation_bits);
  content = attestation.content;
  signature = attestation.signature;
}
