-- The swap-or-not shuffle of beacon-chain.md, "compute_shuffled_index". A seed is a list of 32 bytes.
use Rattle.std.specs.Prelude.{ℕ, zero, suc, ◌+◌, ◌-◌, ◌/◌, ◌%◌, ◌^◌, max, List, [], ◌∷◌, ◌++◌, length, take, map, slice_index, ◌==◌, if◌then◌else◌}
use Rattle.std.specs.List.{range_with_len}
use Rattle.std.specs.Int.{w32, to_le_bytes}
use Rattle.hash_tree.specs.Merkle.{hash, bytes_to_uint64}

-- the pivot of a round: the first 8 bytes of hash(seed + round), as an index below count
unfoldable pub pivot_of : List ℕ → ℕ → ℕ → ℕ
pivot_of seed round count = bytes_to_uint64 (take 8 (hash (seed ++ round ∷ []))) % count

-- the source of a round for a page of 256 positions: hash(seed + round + uint_to_bytes(page)), the page as a uint32
unfoldable pub source_of : List ℕ → ℕ → ℕ → List ℕ
source_of seed round page = hash (seed ++ round ∷ to_le_bytes w32 page)

-- the bit of a position in the source of its page: bit position % 8 of byte position % 256 / 8
unfoldable pub bit_in : List ℕ → ℕ → ℕ
bit_in source position = slice_index source (position % 256 / 8) / 2 ^ (position % 8) % 2

-- the bit of a position in a round
unfoldable pub bit_of : List ℕ → ℕ → ℕ → ℕ
bit_of seed round position = bit_in (source_of seed round (position / 256)) position

-- one round: an index becomes its flip where the bit of the greater of the two is 1
unfoldable pub after_round : List ℕ → ℕ → ℕ → ℕ → ℕ
after_round seed round count index =
    let flip : ℕ = (pivot_of seed round count + count - index) % count in
    if bit_of seed round (max index flip) == 1 then flip else index

-- compute_shuffled_index, with so many rounds (SHUFFLE_ROUND_COUNT of the preset), the first of which has number 0
unfoldable pub compute_shuffled_index : ℕ → ℕ → ℕ → List ℕ → ℕ
compute_shuffled_index zero index index_count seed = index
compute_shuffled_index (suc round) index index_count seed =
    after_round seed round index_count (compute_shuffled_index round index index_count seed)

-- the list that holds, at each index, the item at the shuffled index
unfoldable pub shuffled_list : List ℕ → ℕ → List ℕ → List ℕ
shuffled_list seed rounds items =
    map (λ index. slice_index items (compute_shuffled_index rounds index (length items) seed)) (range_with_len 0 (length items))
