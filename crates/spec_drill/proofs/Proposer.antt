-- The proposer of a made chain's slot: one of the validators, or the limit.
use Rattle.std.proofs.Common.{◌≡◌, ◌⊎◌, ℕ, zero, suc, ◌+◌, ◌*◌, ◌/◌, ◌%◌, ◌<◌, ◌≤◌, Bool, leb, List, ◌++◌, length, Option, Some, None, slice_index, refl, sym, ap, subst, inl, inr, arith}
use Rattle.spec_blocks.specs.Gives.{Gives}
use Rattle.spec_drill.specs.inside.Calm.{IsFullRegistry}
use Rattle.std.specs.List.{range_with_len}
use Rattle.bc_words.specs.Outcome.{Outcome, done, limited, bind, checked_mul}
use Rattle.bc_words.specs.Searches.{first_from}
use Rattle.bc_words.specs.declared.stop.Limit.TheVariants.{Proposer}
use Rattle.bc_preset.specs.declared.presets.Preset.{Preset}
use Rattle.bc_preset.specs.laws.Bounds.{HasPresetBounds}
use Rattle.hash_tree.specs.Merkle.{hash, uint_to_bytes}
use Rattle.committees.specs.Shuffling.{compute_shuffled_index}
use Rattle.committees.specs.Proposers.{candidate, random_byte, weighs_enough, candidate_passes, candidate_found, proposer_below}
use Rattle.spec_state.specs.declared.plain.PlainState.{PlainState}
use Rattle.spec_state.specs.Constants.{far_future_epoch, domain_beacon_proposer, max_proposer_candidates}
use Rattle.spec_state.specs.Misc.{effective_balance}
use Rattle.spec_state.specs.Accessors.{get_current_epoch, get_seed, get_beacon_proposer_index}
use Rattle.spec_blocks.proofs.Gives.{gives_done, gives_then, gives_if, gives_more, mul_gives}
use Rattle.spec_drill.proofs.Lists.{range_all}
use Rattle.spec_state.proofs.Digests.{hash_fits}
use Rattle.spec_drill.proofs.Bytes.{index_or_zero}
use Rattle.spec_drill.proofs.Registry.{all_active, most_balance}

-- a value of which something holds, or the limit
pub record GivesOrLimit {A : Type 0} (P : A → Type 0) (o : Outcome A) : Type 0 where
  pub either : Gives P o ⊎ (o ≡ limited Proposer)

passes_give : (preset : Preset) (effective : ℕ → ℕ) (indices seed : List ℕ) (i : ℕ) → HasPresetBounds preset → ((k : ℕ) → effective k ≤ 32_000_000_000) → Gives (λ b. Unit {0}) (candidate_passes preset effective indices seed i)
unfolding candidate_passes weighs_enough random_byte
passes_give preset effective indices seed i bounds low =
    let byte : ℕ = slice_index (hash (seed ++ uint_to_bytes (i / 32))) (i % 32) in
    let byte_low : byte < 256 = hash_fits (seed ++ uint_to_bytes (i / 32)) (i % 32) in
    let balance = low (candidate preset indices seed i) in
    let product : preset.max_effective_balance * byte ≡ 32_000_000_000 * byte = ap (λ n. n * byte) bounds.max_effective_balance in
    gives_then (λ n. Unit {0}) (λ b. Unit {0}) (checked_mul (effective (candidate preset indices seed i)) 255) _ (gives_more (λ c. c ≡ effective (candidate preset indices seed i) * 255) (λ n. Unit {0}) _ (λ c h. tt) (mul_gives (effective (candidate preset indices seed i)) 255 (omega arith))) (λ weighed any.
    gives_then (λ n. Unit {0}) (λ b. Unit {0}) (checked_mul preset.max_effective_balance byte) _ (gives_more (λ c. c ≡ preset.max_effective_balance * byte) (λ n. Unit {0}) _ (λ c h. tt) (mul_gives preset.max_effective_balance byte (omega arith))) (λ least any.
    gives_done (λ b. Unit {0}) (leb least weighed) tt))

search_gives : (test : ℕ → Outcome Bool) (count i : ℕ) → ((k : ℕ) → Gives (λ b. Unit {0}) (test k)) → Gives (λ o. Unit {0}) (first_from test count i)
unfolding first_from
search_gives test zero i each = gives_done (λ o. Unit {0}) None tt
search_gives test (suc count) i each =
    gives_then (λ b. Unit {0}) (λ o. Unit {0}) (test i) _ (each i) (λ passed any.
    gives_if (λ o. Unit {0}) passed (done (Some i)) (first_from test count (i + 1)) (λ h. gives_done (λ o. Unit {0}) (Some i) tt) (λ h. search_gives test count (i + 1) each))

range_low : (k : ℕ) → slice_index (range_with_len 0 64) k < 64
range_low k = index_or_zero (λ n. n < 64) (range_with_len 0 64) k (range_all (λ n. n < 64) 0 64 (λ i less. less)) (omega arith)

found_gives : (preset : Preset) (seed : List ℕ) (o : Option ℕ) → GivesOrLimit (λ i. i < 64) (candidate_found preset (range_with_len 0 64) seed o)
unfolding candidate_found candidate
found_gives preset seed None = record { either = inr refl }
found_gives preset seed (Some i) = record { either = inl (gives_done (λ i. i < 64) _ (range_low (compute_shuffled_index preset.shuffle_round_count (i % length (range_with_len 0 64)) (length (range_with_len 0 64)) seed))) }

bound_gives : {A B : Type 0} (P : B → Type 0) (o : Outcome A) (x : A) (next : A → Outcome B) → o ≡ done x → GivesOrLimit P (next x) → GivesOrLimit P (bind o next)
bound_gives P o x next e g = subst (λ o. GivesOrLimit P (bind o next)) (sym e) g

below_gives : (preset : Preset) (effective : ℕ → ℕ) (seed : List ℕ) (bound : ℕ) → HasPresetBounds preset → ((k : ℕ) → effective k ≤ 32_000_000_000) → GivesOrLimit (λ i. i < 64) (proposer_below preset effective (range_with_len 0 64) seed bound)
unfolding proposer_below
below_gives preset effective seed bound bounds low =
    let indices : List ℕ = range_with_len 0 64 in
    let found = search_gives (candidate_passes preset effective indices seed) bound 0 (λ k. passes_give preset effective indices seed k bounds low) in
    bound_gives (λ i. i < 64) (first_from (candidate_passes preset effective indices seed) bound 0) found.value (candidate_found preset indices seed) found.is (found_gives preset seed found.value)

-- get_beacon_proposer_index
pub proposer_gives : (s : PlainState) → HasPresetBounds s.preset → IsFullRegistry s → get_current_epoch s < far_future_epoch → GivesOrLimit (λ i. i < 64) (get_beacon_proposer_index s)
unfolding get_beacon_proposer_index
proposer_gives s bounds full low =
    let seed : List ℕ = hash (get_seed s (get_current_epoch s) domain_beacon_proposer ++ uint_to_bytes s.slot) in
    subst (λ indices. GivesOrLimit (λ i. i < 64) (proposer_below s.preset (effective_balance s.validators) indices seed max_proposer_candidates)) (sym (all_active s (get_current_epoch s) full low))
    (below_gives s.preset (effective_balance s.validators) seed max_proposer_candidates bounds (λ k. most_balance s.validators k full.all))
