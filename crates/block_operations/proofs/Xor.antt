-- The exclusive or of bytes, one after another.
use Rattle.std.proofs.Common.{◌≡◌, ℕ, zero, suc, ◌+◌, ◌<◌, ◌≤◌, List, [], ◌∷◌, ◌++◌, length, get_or, take, drop, refl, ap, ◌∙◌, arith}
use Rattle.std.proofs.Math.ListN.{drop_of_length-le}
use Rattle.std.specs.Prelude.{bit_xor}
use Rattle.std.proofs.Math.ListN.{set}
use Rattle.spec_blocks.specs.ProcessRandao.{xor}

-- the first i are mixed, the others are still those of the first list
abbrev pub mixed_to : List ℕ → List ℕ → ℕ → List ℕ
mixed_to xs ys i = xor (take i xs) (take i ys) ++ drop i xs

pub xor_begins : (xs ys : List ℕ) → mixed_to xs ys 0 ≡ xs
xor_begins xs ys = refl

pub xor_goes_on : (xs ys : List ℕ) (i : ℕ) → i < length xs → i < length ys → set (mixed_to xs ys i) i (bit_xor (get_or xs i 0) (get_or ys i 0)) ≡ mixed_to xs ys (i + 1)
xor_goes_on [] ys i h k = absurd (omega arith)
xor_goes_on (x ∷ xs) [] i h k = absurd (omega arith)
xor_goes_on (x ∷ xs) (y ∷ ys) zero h k = refl
xor_goes_on (x ∷ xs) (y ∷ ys) (suc i) h k = ap (λ zs. bit_xor x y ∷ zs) (xor_goes_on xs ys i (omega arith) (omega arith)) ∙ ap (mixed_to (x ∷ xs) (y ∷ ys)) (let e : suc (i + 1) ≡ suc i + 1 = omega arith in e)

pub xor_ends : (xs ys : List ℕ) (i : ℕ) → length xs ≤ i → length ys ≤ i → mixed_to xs ys i ≡ xor xs ys
xor_ends [] [] zero h k = refl
xor_ends [] [] (suc i) h k = refl
xor_ends [] (y ∷ ys) zero h k = absurd (omega arith)
xor_ends [] (y ∷ ys) (suc i) h k = refl
xor_ends (x ∷ xs) ys zero h k = absurd (omega arith)
xor_ends (x ∷ xs) [] (suc i) h k = (drop_of_length-le xs (let h' : length xs ≤ i = omega arith in h'))
xor_ends (x ∷ xs) (y ∷ ys) (suc i) h k = ap (λ zs. bit_xor x y ∷ zs) (xor_ends xs ys i (omega arith) (omega arith))
