-- Eight messages side by side: each word is a vector, with one lane for each message.
use Rattle.std.specs.Prelude.{◌≡◌, ◌≢◌, ℕ, ◌+◌, ◌^◌, ◌<◌, List, [], ◌∷◌, ◌++◌, map, slice_index, slice_index_or}
use Rattle.std.specs.Int.{w32, to_le_bytes}
use Rattle.sha2.specs.Sha256.{add32, initial_hash_256, padding, rounds, schedule, small_sigma0}

-- lane j of each vector
abbrev pub lane : ℕ → List (List ℕ) → List ℕ
lane j words = map (λ word. slice_index word j) words

-- lane j of vector k
abbrev pub lane_at : List (List ℕ) → ℕ → ℕ → ℕ
lane_at words k j = slice_index (slice_index_or words k []) j

-- the eight working variables of message j
abbrev pub variables : ℕ → List (List ℕ) → List ℕ
variables j v =
    lane_at v 0 j ∷ lane_at v 1 j ∷ lane_at v 2 j ∷ lane_at v 3 j
    ∷ lane_at v 4 j ∷ lane_at v 5 j ∷ lane_at v 6 j ∷ lane_at v 7 j ∷ []

-- the block behind a message of 64 bytes
unfoldable pub padding_block : List ℕ
padding_block = padding 64

-- what stands behind a seed in the block that a seed, a round and a page's number fill with their padding
unfoldable pub source_tail : ℕ → ℕ → List ℕ
source_tail round page = (round ∷ to_le_bytes w32 page) ++ padding 37

-- that block
abbrev pub source_block : List ℕ → ℕ → ℕ → List ℕ
source_block seed round page = seed ++ source_tail round page

-- what stands behind a seed in the block that a seed and a round fill with their padding
unfoldable pub round_tail : ℕ → List ℕ
round_tail round = (round ∷ []) ++ padding 33

-- the variables behind the first eight rounds of any block that begins with a seed
abbrev pub Begun : List ℕ → List ℕ → Type 0
Begun seed v = (tail : List ℕ) → v ≡ rounds initial_hash_256 (schedule (seed ++ tail) 48) 8

-- the words before place 23 of the schedule of any source of a seed whose page is below 2 ^ 24, but for the one that holds the
-- round and the page
abbrev pub Common : List ℕ → List ℕ → Type 0
Common seed words = (round page k : ℕ) → page < 2 ^ 24 → k < 23 → k ≢ 8
    → slice_index words k ≡ slice_index (schedule (source_block seed round page) 48) k

-- what the words at the places from 25 up to but not 38 of those schedules take from the words fifteen and sixteen before them
abbrev pub Ahead : List ℕ → List ℕ → Type 0
Ahead seed sums = (round page k : ℕ) → page < 2 ^ 24 → k < 13
    → slice_index sums k
    ≡ add32 (small_sigma0 (slice_index (schedule (source_block seed round page) 48) (k + 10))) (slice_index (schedule (source_block seed round page) 48) (k + 9))
