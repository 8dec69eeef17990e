-- is_valid_indexed_attestation (beacon-chain.md, "Predicates"), as checks with their refusals. Signatures are off.
use Rattle.std.specs.Prelude.{ℕ, Bool, true, not, ◌&&◌, List, [], ◌∷◌, length, nat_lt, ◌==◌}
use Rattle.std.specs.List.{list_all}
use Rattle.bc_words.specs.Outcome.{Outcome}
use Rattle.bc_words.specs.declared.refusal.Refusal.TheVariants.{AsIndices, IndexRange}
use Rattle.beacon_types.specs.declared.indexed_attestation.IndexedAttestation.{IndexedAttestation}
use Rattle.spec_state.specs.declared.plain.PlainState.{PlainState}
use Rattle.spec_blocks.specs.Checks.{check, ◌>>◌}

-- the indices are sorted, and none is there twice
unfoldable pub is_strictly_ascending : List ℕ → Bool
is_strictly_ascending [] = true
is_strictly_ascending (index ∷ []) = true
is_strictly_ascending (index ∷ next ∷ indices) = nat_lt index next && is_strictly_ascending (next ∷ indices)

-- is_valid_indexed_attestation(state, indexed_attestation)
unfoldable pub is_valid_indexed_attestation : PlainState → IndexedAttestation → Outcome (Unit {0})
is_valid_indexed_attestation state indexed_attestation = do
  let indices = indexed_attestation.attesting_indices
  -- there are indices, sorted and each once
  check (not (length indices == 0) && is_strictly_ascending indices) AsIndices
  -- each is in the registry
  check (list_all (λ index. nat_lt index (length state.validators)) indices) IndexRange
