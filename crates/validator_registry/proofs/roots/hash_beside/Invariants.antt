-- The pairs written so far are the nodes on the left, each with the one on the right behind it.
use Rattle.std.proofs.Common.{◌≡◌, [], ◌∷◌, length, take}
use Rattle.std.specs.Simd.Lanes.{zip2}
use Rattle.validator_registry.proofs.roots.hash_beside.Given as goal

abbrev pub invariant-pairs : goal.invariant-pairs
invariant-pairs l = record { room : length l.pairs ≡ 16; so_far : take l.i l.pairs ≡ zip2 (λ a b. a ∷ b ∷ []) (take l.i l.left) (take l.i l.right) }
