-- The sums that a round makes, in another order.
use Rattle.std.proofs.Common.{◌≡◌, ℕ, List, [], ◌∷◌, slice_index, arith}
use Rattle.sha2.specs.Sha256.{add32, temp2}

pub reordered : (h s c k w : ℕ) → add32 (add32 (add32 (add32 h k) w) c) s ≡ add32 (add32 (add32 (add32 h s) c) k) w
reordered h s c k w = omega arith

-- a round from its first sum
abbrev pub round_from : List ℕ → ℕ → List ℕ
round_from v first =
    add32 first (temp2 v) ∷ slice_index v 0 ∷ slice_index v 1 ∷ slice_index v 2
    ∷ add32 (slice_index v 3) first ∷ slice_index v 4 ∷ slice_index v 5 ∷ slice_index v 6 ∷ []
