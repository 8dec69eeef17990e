-- The square root that grows by one where the next square fits is the greatest one.
use Rattle.std.proofs.Common.{◌≡◌, ℕ, zero, suc, ◌+◌, ◌*◌, ◌<◌, ◌≤◌, Bool, true, false, cond, refl, sym, subst, inl, inr, arith}
use Rattle.std.proofs.lemmas.Bool.{leb-true, leb-false, cases_lt}
use Rattle.std.proofs.lemmas.Nat.{mul-le}
use Rattle.std.specs.Prelude.{leb}
use Rattle.bc_words.specs.SquareRoot.{integer_squareroot, IsSquareRoot}

-- squares grow with their roots
squares_grow : (a b : ℕ) → a ≤ b → a * a ≤ b * b
squares_grow a b h = mul-le a a b b h h

next_square : (r : ℕ) → (r + 1) * (r + 1) ≡ r * r + 2 * r + 1
next_square r = omega arith

-- a number whose square is at most that of another with one more is at most the other
at_most : (other r : ℕ) → other * other < (r + 1) * (r + 1) → other ≤ r
at_most other r h = elim (cases_lt r other) as (λ _. other ≤ r) [ inl more ↦ absurd (omega (arith, h, squares_grow (r + 1) other (omega arith))) | inr less ↦ less ]

abbrev grown : ℕ → ℕ → Bool → ℕ
grown n r fits = cond fits (r + 1) r

step : (n : ℕ) → integer_squareroot (suc n) ≡ grown n (integer_squareroot n) (leb ((integer_squareroot n + 1) * (integer_squareroot n + 1)) (suc n))
unfolding integer_squareroot
step n = refl

begins : integer_squareroot 0 ≡ 0
unfolding integer_squareroot
begins = refl

stays : (n r : ℕ) → IsSquareRoot n r → suc n < (r + 1) * (r + 1) → IsSquareRoot (suc n) r
stays n r is h = record { square_fits = omega (arith, is.square_fits); greatest = λ other fits. at_most other r (omega arith) }

grows : (n r : ℕ) → IsSquareRoot n r → (r + 1) * (r + 1) ≤ suc n → IsSquareRoot (suc n) (r + 1)
grows n r is h = record {
  square_fits = h;
  greatest = λ other fits. elim (cases_lt (r + 1) other) as (λ _. other ≤ r + 1) [
    | inl more ↦ (let squares = squares_grow (r + 2) other (omega arith) in
        let wider : (r + 2) * (r + 2) ≡ r * r + 4 * r + 4 = omega arith in
        let least = is.greatest (r + 1) (omega (arith, next_square r, squares, wider, fits)) in
        absurd (omega (arith, least)))
    | inr less ↦ less
  ];
}

either_way : (n r : ℕ) → IsSquareRoot n r → (fits : Bool) → leb ((r + 1) * (r + 1)) (suc n) ≡ fits → IsSquareRoot (suc n) (grown n r fits)
either_way n r is true e = grows n r is (leb-true _ _ e)
either_way n r is false e = stays n r is (leb-false _ _ e)

pub root_is_root : (n : ℕ) → IsSquareRoot n (integer_squareroot n)
root_is_root zero = subst (IsSquareRoot 0) (sym begins) (record { square_fits = omega arith; greatest = λ other fits. at_most other 0 (omega arith) })
root_is_root (suc n) = subst (IsSquareRoot (suc n)) (sym (step n)) (either_way n (integer_squareroot n) (root_is_root n) (leb ((integer_squareroot n + 1) * (integer_squareroot n + 1)) (suc n)) refl)

-- there is one such root
pub roots_are_one : (n root : ℕ) → IsSquareRoot n root → root ≡ integer_squareroot n
roots_are_one n root is = omega (arith, is.greatest (integer_squareroot n) (root_is_root n).square_fits, (root_is_root n).greatest root is.square_fits)

-- a root whose square fits, and whose next square does not, is the one
pub root_between : (n root : ℕ) → root * root ≤ n → n < (root + 1) * (root + 1) → root ≡ integer_squareroot n
root_between n root fits next = roots_are_one n root (record { square_fits = fits; greatest = λ other h. at_most other root (omega arith) })
