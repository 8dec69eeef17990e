-- What a shelf in memory hands out.
use Rattle.std.specs.Prelude.{◌≡◌, ℕ, min, List, ◌++◌, length, take, drop}

-- so many of the bytes that are left stand in front of a piece: as many as it takes and as a call hands out at most
abbrev pub HandsOut : ℕ → List ℕ → List ℕ → ℕ → List ℕ → Type 0
HandsOut greatest piece piece_then n left = (n ≡ min (min greatest (length piece)) (length left)) × (piece_then ≡ take n left ++ drop n piece)
