-- What holds of each of sixteen lanes.
use Rattle.std.proofs.Common.{◌≡◌, ℕ, zero, suc, ◌+◌, ◌*◌, ◌/◌, ◌%◌, ◌^◌, ◌<◌, ◌≤◌, List, [], ◌∷◌, length, get_or, slice_index, map}
use Rattle.std.proofs.Common.{bit_and, false, cond, ◌==◌, if◌then◌else◌, w8, refl, sym, ap, ◌∙◌, arith, inl, inr}
use Rattle.std.specs.Int.{bit_at}
use Rattle.std.specs.Simd.Lanes.{zip2, sel_l, top}
use Rattle.std.proofs.Math.Nat.{div-div-eq-div-mul}
use Rattle.std.proofs.lemmas.Bool.{cases_lt}
use Rattle.std.proofs.lemmas.Nat.{pow_pos, pow-add}
use Rattle.std.proofs.lemmas.Nat.Bits.{and_pow, bit_at-lt, bit_at_cat_low}
use Rattle.std.proofs.lemmas.Simd.{get_or-sel_l, get_or-zip2, length-zip2, tops_compared}

pub below_sixteen : (P : ℕ → Type 0) → P 0 → P 1 → P 2 → P 3 → P 4 → P 5 → P 6 → P 7 → P 8 → P 9 → P 10 → P 11 → P 12 → P 13 → P 14 → P 15 → (j : ℕ) → j < 16 → P j
below_sixteen P p0 p1 p2 p3 p4 p5 p6 p7 p8 p9 p10 p11 p12 p13 p14 p15 zero h = p0
below_sixteen P p0 p1 p2 p3 p4 p5 p6 p7 p8 p9 p10 p11 p12 p13 p14 p15 (suc zero) h = p1
below_sixteen P p0 p1 p2 p3 p4 p5 p6 p7 p8 p9 p10 p11 p12 p13 p14 p15 (suc (suc zero)) h = p2
below_sixteen P p0 p1 p2 p3 p4 p5 p6 p7 p8 p9 p10 p11 p12 p13 p14 p15 (suc (suc (suc zero))) h = p3
below_sixteen P p0 p1 p2 p3 p4 p5 p6 p7 p8 p9 p10 p11 p12 p13 p14 p15 (suc (suc (suc (suc zero)))) h = p4
below_sixteen P p0 p1 p2 p3 p4 p5 p6 p7 p8 p9 p10 p11 p12 p13 p14 p15 (suc (suc (suc (suc (suc zero))))) h = p5
below_sixteen P p0 p1 p2 p3 p4 p5 p6 p7 p8 p9 p10 p11 p12 p13 p14 p15 (suc (suc (suc (suc (suc (suc zero)))))) h = p6
below_sixteen P p0 p1 p2 p3 p4 p5 p6 p7 p8 p9 p10 p11 p12 p13 p14 p15 (suc (suc (suc (suc (suc (suc (suc zero))))))) h = p7
below_sixteen P p0 p1 p2 p3 p4 p5 p6 p7 p8 p9 p10 p11 p12 p13 p14 p15 (suc (suc (suc (suc (suc (suc (suc (suc zero)))))))) h = p8
below_sixteen P p0 p1 p2 p3 p4 p5 p6 p7 p8 p9 p10 p11 p12 p13 p14 p15 (suc (suc (suc (suc (suc (suc (suc (suc (suc zero))))))))) h = p9
below_sixteen P p0 p1 p2 p3 p4 p5 p6 p7 p8 p9 p10 p11 p12 p13 p14 p15 (suc (suc (suc (suc (suc (suc (suc (suc (suc (suc zero)))))))))) h = p10
below_sixteen P p0 p1 p2 p3 p4 p5 p6 p7 p8 p9 p10 p11 p12 p13 p14 p15 (suc (suc (suc (suc (suc (suc (suc (suc (suc (suc (suc zero))))))))))) h = p11
below_sixteen P p0 p1 p2 p3 p4 p5 p6 p7 p8 p9 p10 p11 p12 p13 p14 p15 (suc (suc (suc (suc (suc (suc (suc (suc (suc (suc (suc (suc zero)))))))))))) h = p12
below_sixteen P p0 p1 p2 p3 p4 p5 p6 p7 p8 p9 p10 p11 p12 p13 p14 p15 (suc (suc (suc (suc (suc (suc (suc (suc (suc (suc (suc (suc (suc zero))))))))))))) h = p13
below_sixteen P p0 p1 p2 p3 p4 p5 p6 p7 p8 p9 p10 p11 p12 p13 p14 p15 (suc (suc (suc (suc (suc (suc (suc (suc (suc (suc (suc (suc (suc (suc zero)))))))))))))) h = p14
below_sixteen P p0 p1 p2 p3 p4 p5 p6 p7 p8 p9 p10 p11 p12 p13 p14 p15 (suc (suc (suc (suc (suc (suc (suc (suc (suc (suc (suc (suc (suc (suc (suc zero))))))))))))))) h = p15
below_sixteen P p0 p1 p2 p3 p4 p5 p6 p7 p8 p9 p10 p11 p12 p13 p14 p15 (suc (suc (suc (suc (suc (suc (suc (suc (suc (suc (suc (suc (suc (suc (suc (suc n)))))))))))))))) h = absurd (omega arith)

abbrev pub weights : List ℕ
weights = 1 ∷ 2 ∷ 4 ∷ 8 ∷ 16 ∷ 32 ∷ 64 ∷ 128 ∷ 1 ∷ 2 ∷ 4 ∷ 8 ∷ 16 ∷ 32 ∷ 64 ∷ 128 ∷ []

weight : (j : ℕ) → j < 16 → get_or weights j 0 ≡ 2 ^ (j % 8)
weight = below_sixteen _ refl refl refl refl refl refl refl refl refl refl refl refl refl refl refl refl

low_byte : (n k : ℕ) → k < 8 → bit_at (n % 256) k ≡ bit_at n k
low_byte n k less =
    let parts : n / 256 * 2 ^ 8 + n % 256 ≡ n = omega arith in
    sym (bit_at_cat_low (n / 256) 8 (n % 256) k less) ∙ ap (λ m. bit_at m k) parts

next_byte : (n k : ℕ) → k < 8 → bit_at (n / 256 % 256) k ≡ bit_at n (8 + k)
next_byte n k less =
    low_byte (n / 256) k less ∙ ap (λ m. m % 2) (div-div-eq-div-mul n (2 ^ 8) (2 ^ k) ∙ ap (λ m. n / m) (sym (pow-add 2 8 k)))

tested : (b p : ℕ) → b < 2 → 0 < p → (b * p == p) ≡ (b == 1)
tested zero p less some = grind arith
tested (suc zero) p less some = grind arith
tested (suc (suc b)) p less some = absurd (omega arith)

module _ (bits : ℕ) (bytes : List ℕ) (long : length bytes ≡ 16)
    (low : (j : ℕ) → j < 8 → slice_index bytes j ≡ bits % 256) (high : (j : ℕ) → 8 ≤ j → j < 16 → slice_index bytes j ≡ bits / 256 % 256) where
  bit_of_lane : (j : ℕ) → j < 16 → bit_at (get_or bytes j 0) (j % 8) ≡ bit_at bits j
  bit_of_lane j less = elim (cases_lt j 8) [
    | inl first ↦
        let k : j % 8 ≡ j = omega arith in
        rw (k, low j first) (low_byte bits j first)
    | inr second ↦
        let k : 8 + j % 8 ≡ j = omega arith in
        rw (high j second less) (next_byte bits (j % 8) (omega arith) ∙ ap (bit_at bits) k)
  ]

  pub chosen : (one other : List ℕ) → length one ≡ 16 → length other ≡ 16 → (j : ℕ) → j < 16
      → slice_index (sel_l (map (top 7) (zip2 (λ a b. cond (a == b) 255 0) (zip2 bit_and bytes weights) weights)) other one) j
      ≡ (if bit_at bits j == 1 then slice_index other j else slice_index one j)
  chosen one other long_one long_other j less =
      let anded = zip2 bit_and bytes weights in
      let same = zip2 (λ a b. a == b) anded weights in
      let n : length anded ≡ 16 = length-zip2 bit_and bytes weights long ∙ long in
      let m : length same ≡ 16 = length-zip2 (λ (a b : ℕ). a == b) anded weights n ∙ n in
      ap (λ ms. slice_index (sel_l ms other one) j) (tops_compared w8 (λ (a b : ℕ). a == b) anded weights)
      ∙ get_or-sel_l same other one j 0 (omega arith) (omega arith) (omega arith)
      ∙ ap (λ b. cond b (get_or other j 0) (get_or one j 0))
      (get_or-zip2 (λ (a b : ℕ). a == b) anded weights j 0 0 false (omega arith) less
      ∙ ap (λ a. a == get_or weights j 0) (get_or-zip2 bit_and bytes weights j 0 0 0 (omega arith) less)
      ∙ ap (λ w. bit_and (get_or bytes j 0) w == w) (weight j less)
      ∙ ap (λ a. a == 2 ^ (j % 8)) (and_pow (get_or bytes j 0) (j % 8))
      ∙ tested (bit_at (get_or bytes j 0) (j % 8)) (2 ^ (j % 8)) (bit_at-lt (get_or bytes j 0) (j % 8)) (pow_pos (j % 8))
      ∙ ap (λ b. b == 1) (bit_of_lane j less))
