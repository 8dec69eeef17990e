-- What a set of validators stands for: the bits that are set in some words of 64 bits.
use Rattle.std.specs.Prelude.{ℕ, ◌*◌, ◌/◌, ◌%◌, Bool, List, length, filter, slice_index_or, ◌==◌}
use Rattle.std.specs.Int.{bit_at}
use Rattle.std.specs.List.{range_with_len}

-- the members in ascending order, and below which number there is room for more
pub record Indices : Type 0 where
  pub indices : List ℕ
  pub room : ℕ

-- whether the bit of an index is set
unfoldable pub has_bit : List ℕ → ℕ → Bool
has_bit words index = bit_at (slice_index_or words (index / 64) 0) (index % 64) == 1

-- the indices whose bits are set
unfoldable pub indices_in : List ℕ → List ℕ
indices_in words = filter (has_bit words) (range_with_len 0 (64 * length words))
