-- The square root of a whole number (beacon-chain.md, "integer_squareroot").
use Rattle.std.specs.Prelude.{ℕ, zero, suc, ◌+◌, ◌*◌, ◌≤◌, leb, if◌then◌else◌}

-- the greatest number whose square is at most n: from one number to the next it grows by one where the next square fits
unfoldable pub integer_squareroot : ℕ → ℕ
integer_squareroot zero = 0
integer_squareroot (suc n) =
    let root : ℕ = integer_squareroot n in
    if leb ((root + 1) * (root + 1)) (suc n) then root + 1 else root

-- the root is the greatest number whose square is at most n
pub record IsSquareRoot (n root : ℕ) : Type 0 where
  pub square_fits : root * root ≤ n
  pub greatest : (other : ℕ) → other * other ≤ n → other ≤ root
