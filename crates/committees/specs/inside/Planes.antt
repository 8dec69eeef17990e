-- Words of this crate's own contracts, for items of three bytes each whose bytes stand in three lists.
use Rattle.std.specs.Prelude.{ℕ, ◌+◌, ◌*◌, List}
use Rattle.std.specs.Simd.Lanes.{zip2}

-- a byte and the bytes above it
abbrev pub with_above : ℕ → ℕ → ℕ
with_above byte above = byte + 256 * above

-- the items of three lists of bytes, the low bytes first
unfoldable pub from_planes : List ℕ → List ℕ → List ℕ → List ℕ
from_planes low middle high = zip2 with_above low (zip2 with_above middle high)
