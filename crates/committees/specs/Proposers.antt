-- The proposer of a slot (beacon-chain.md, "compute_proposer_index").
use Rattle.std.specs.Prelude.{ℕ, ◌/◌, ◌%◌, List, ◌∷◌, ◌++◌, length, Bool, Option, Some, None, leb, slice_index, ◌==◌, if◌then◌else◌}
use Rattle.bc_words.specs.Outcome.{Outcome, done, refused, limited, bind, ◌>>=◌, checked_mul}
use Rattle.bc_words.specs.Searches.{first_from}
use Rattle.bc_words.specs.declared.refusal.Refusal.TheVariants.{NoActive}
use Rattle.bc_words.specs.declared.stop.Limit.TheVariants.{Proposer}
use Rattle.bc_preset.specs.declared.presets.Preset.{Preset}
use Rattle.hash_tree.specs.Merkle.{hash, uint_to_bytes}
use Rattle.committees.specs.Shuffling.{compute_shuffled_index}

-- candidate number i: the validator at the shuffled index of i % total
unfoldable pub candidate : Preset → List ℕ → List ℕ → ℕ → ℕ
candidate preset indices seed i =
    slice_index indices (compute_shuffled_index preset.shuffle_round_count (i % length indices) (length indices) seed)

-- the random byte of candidate number i
unfoldable pub random_byte : List ℕ → ℕ → ℕ
random_byte seed i = slice_index (hash (seed ++ uint_to_bytes (i / 32))) (i % 32)

-- effective_balance * MAX_RANDOM_BYTE >= MAX_EFFECTIVE_BALANCE * random_byte
unfoldable pub weighs_enough : Preset → ℕ → ℕ → Outcome Bool
weighs_enough preset balance byte = do
  weighed ← checked_mul balance 255
  least ← checked_mul preset.max_effective_balance byte
  done (leb least weighed)

-- whether candidate number i passes, where effective gives the effective balance of an index
unfoldable pub candidate_passes : Preset → (ℕ → ℕ) → List ℕ → List ℕ → ℕ → Outcome Bool
candidate_passes preset effective indices seed i =
    weighs_enough preset (effective (candidate preset indices seed i)) (random_byte seed i)

-- the candidate with the number that was found, or the limit where none was
unfoldable pub candidate_found : Preset → List ℕ → List ℕ → Option ℕ → Outcome ℕ
candidate_found preset indices seed None = limited Proposer
candidate_found preset indices seed (Some i) = done (candidate preset indices seed i)

-- compute_proposer_index, where effective gives the effective balance of an index: the candidate of the least number
-- below bound that passes
unfoldable pub proposer_below : Preset → (ℕ → ℕ) → List ℕ → List ℕ → ℕ → Outcome ℕ
proposer_below preset effective indices seed bound =
    if length indices == 0
    then refused NoActive
    else bind (first_from (candidate_passes preset effective indices seed) bound 0) (candidate_found preset indices seed)
