-- Which states are kept, and where.
use Rattle.std.proofs.Common.{◌≡◌, ℕ, ◌%◌, Some, None, cond, ap, eq-eqb, ne_eqb}
use Rattle.state_keeper.specs.Chain.{kept_every}
use Rattle.state_keeper.specs.inside.Entries.{place_of}

-- that of a block at a multiple of so many steps is kept
pub whole_place : (distance many : ℕ) → distance % kept_every ≡ 0 → place_of distance many ≡ Some many
unfolding place_of
whole_place distance many whole = ap (λ b. cond b (Some many) None) (eq-eqb (distance % kept_every) 0 whole)

-- and no other one
pub other_place : (distance many : ℕ) → (distance % kept_every ≡ 0 → ⊥) → place_of distance many ≡ None
unfolding place_of
other_place distance many other = ap (λ b. cond b (Some many) None) (ne_eqb (distance % kept_every) 0 other)
