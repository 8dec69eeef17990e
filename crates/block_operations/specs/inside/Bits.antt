-- What is read of one bit.
use Rattle.std.specs.Prelude.{ℕ, Bool, false, List, slice_get, unwrap_or}

-- whether the bit at a place is set; one that is not there is not
abbrev pub is_set : List Bool → ℕ → Bool
is_set bits i = unwrap_or (slice_get bits i) false
