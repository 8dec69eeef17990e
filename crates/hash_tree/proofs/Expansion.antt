-- The words of the lanes' schedules, from the words before them.
use Rattle.std.proofs.Common.{◌≡◌, ℕ, ◌-◌, ◌<◌, ◌≤◌, List, [], slice_index, sym, ◌∙◌, arith}
use Rattle.std.proofs.Math.ListN.{get_or-map}
use Rattle.sha2.specs.Sha256.{add32, next_word, schedule, small_sigma0, small_sigma1}
use Rattle.hash_tree.specs.inside.Lanes.{lane, lane_at}
use Rattle.hash_tree.proofs.Schedules.{same_next, further_word}

-- a word of a lane
pub lane_word : (w : List (List ℕ)) (j k : ℕ) → slice_index (lane j w) k ≡ lane_at w k j
lane_word w j k = get_or-map (λ (x : List ℕ). slice_index x j) w k []

-- what a lane has at places before t, its next word is that of the schedule
pub next_is : (w : List (List ℕ)) (j t : ℕ) (b : List ℕ) → 16 ≤ t → t < 64 → ((k : ℕ) → k < t → lane_at w k j ≡ slice_index (schedule b 48) k) → next_word (lane j w) t ≡ slice_index (schedule b 48) t
next_is w j t b low high so_far =
    same_next (lane j w) (schedule b 48) t
    (lane_word w j (t - 2) ∙ so_far (t - 2) (omega arith)) (lane_word w j (t - 7) ∙ so_far (t - 7) (omega arith))
    (lane_word w j (t - 15) ∙ so_far (t - 15) (omega arith)) (lane_word w j (t - 16) ∙ so_far (t - 16) (omega arith))
    ∙ sym (further_word b 48 t low (omega arith))

-- a sum of four words by its halves
halves : (a b c d : ℕ) → add32 (add32 a b) (add32 c d) ≡ add32 (add32 (add32 a b) c) d
halves a b c d = omega arith

-- the word from what it takes of the two words near it and the sum of the two far from it
pub next_by_halves : (b : List ℕ) (t x y far : ℕ) → 16 ≤ t → t < 64
    → x ≡ slice_index (schedule b 48) (t - 2) → y ≡ slice_index (schedule b 48) (t - 7)
    → far ≡ add32 (small_sigma0 (slice_index (schedule b 48) (t - 15))) (slice_index (schedule b 48) (t - 16))
    → add32 (add32 (small_sigma1 x) y) far ≡ slice_index (schedule b 48) t
next_by_halves b t x y far low high e f g =
    let w = schedule b 48 in
    rw (e, f, g)
    (halves (small_sigma1 (slice_index w (t - 2))) (slice_index w (t - 7)) (small_sigma0 (slice_index w (t - 15))) (slice_index w (t - 16))
    ∙ sym (further_word b 48 t low (omega arith)))
