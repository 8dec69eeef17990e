-- What holds of each lane of a vector with n lanes.
use Rattle.std.proofs.Common.{◌≡◌, ℕ, zero, suc, ◌<◌, ◌-◌, ◌*◌, ◌/◌, ◌%◌, ◌^◌, List, [], ◌∷◌, length, slice_index, get_or, map, replicate, bit_or, bit_and, ap, ap₂, ◌∙◌, sym, arith, refl}
use Rattle.std.proofs.Math.ListN.{get_or-map}
use Rattle.std.proofs.lemmas.List.{get_or-replicate, length-map, length-replicate}
use Rattle.std.proofs.lemmas.Simd.{get_or-zip2, length-zip2}
use Rattle.std.specs.Int.{w32, bit_not, rotate_right}
use Rattle.std.specs.Simd.Lanes.{zip2}

-- what holds of each of eight lanes
pub below_eight : (P : ℕ → Type 0) → P 0 → P 1 → P 2 → P 3 → P 4 → P 5 → P 6 → P 7 → (j : ℕ) → j < 8 → P j
below_eight P p0 p1 p2 p3 p4 p5 p6 p7 zero h = p0
below_eight P p0 p1 p2 p3 p4 p5 p6 p7 (suc zero) h = p1
below_eight P p0 p1 p2 p3 p4 p5 p6 p7 (suc (suc zero)) h = p2
below_eight P p0 p1 p2 p3 p4 p5 p6 p7 (suc (suc (suc zero))) h = p3
below_eight P p0 p1 p2 p3 p4 p5 p6 p7 (suc (suc (suc (suc zero)))) h = p4
below_eight P p0 p1 p2 p3 p4 p5 p6 p7 (suc (suc (suc (suc (suc zero))))) h = p5
below_eight P p0 p1 p2 p3 p4 p5 p6 p7 (suc (suc (suc (suc (suc (suc zero)))))) h = p6
below_eight P p0 p1 p2 p3 p4 p5 p6 p7 (suc (suc (suc (suc (suc (suc (suc zero))))))) h = p7
below_eight P p0 p1 p2 p3 p4 p5 p6 p7 (suc (suc (suc (suc (suc (suc (suc (suc n)))))))) h = absurd (omega arith)

-- what holds of each list of eight
pub eight_items : {A : Type 0} (P : List A → Type 0) → ((a b c d e f g h : A) → P (a ∷ b ∷ c ∷ d ∷ e ∷ f ∷ g ∷ h ∷ [])) → (xs : List A) → length xs ≡ 8 → P xs
eight_items P p (a ∷ b ∷ c ∷ d ∷ e ∷ f ∷ g ∷ h ∷ []) l = p a b c d e f g h
eight_items P p [] l = absurd (omega arith)
eight_items P p (a ∷ []) l = absurd (omega arith)
eight_items P p (a ∷ b ∷ []) l = absurd (omega arith)
eight_items P p (a ∷ b ∷ c ∷ []) l = absurd (omega arith)
eight_items P p (a ∷ b ∷ c ∷ d ∷ []) l = absurd (omega arith)
eight_items P p (a ∷ b ∷ c ∷ d ∷ e ∷ []) l = absurd (omega arith)
eight_items P p (a ∷ b ∷ c ∷ d ∷ e ∷ f ∷ []) l = absurd (omega arith)
eight_items P p (a ∷ b ∷ c ∷ d ∷ e ∷ f ∷ g ∷ []) l = absurd (omega arith)
eight_items P p (a ∷ b ∷ c ∷ d ∷ e ∷ f ∷ g ∷ h ∷ i ∷ xs) l = absurd (omega arith)

module _ (n : ℕ) where
  -- an operation of each lane with one number
  with_number : (f : ℕ → ℕ → ℕ) (k : ℕ) (a : List ℕ) → length a ≡ n → (j : ℕ) → j < n → slice_index (zip2 f a (replicate n k)) j ≡ f (slice_index a j) k
  with_number f k a long j less =
      get_or-zip2 f a (replicate n k) j 0 0 0 (omega arith) (omega (arith, length-replicate n k))
      ∙ ap (f (slice_index a j)) (get_or-replicate n j k 0 less)

  -- a shift of each lane
  pub shifts : (k : ℕ) (a : List ℕ) → length a ≡ n → (j : ℕ) → j < n → slice_index (zip2 (λ x b. x / 2 ^ b) a (replicate n k)) j ≡ slice_index a j / 2 ^ k
  shifts = with_number (λ x b. x / 2 ^ b)

  -- two shifts of each lane and an or are a rotation
  pub turns : (k : ℕ) → 0 < k → k < 32 → (a : List ℕ) → length a ≡ n → (j : ℕ) → j < n
      → slice_index (zip2 bit_or (zip2 (λ x b. x / 2 ^ b) a (replicate n k)) (zip2 (λ x b. x * 2 ^ b % 2 ^ 32) a (replicate n (32 - k)))) j
      ≡ rotate_right w32 (slice_index a j) k
  turns k low high a long j less =
      let same : k % 32 ≡ k = omega arith in
      let rest : (32 - k) % 32 ≡ 32 - k = omega arith in
      let right = zip2 (λ x b. x / 2 ^ b) a (replicate n k) in
      let left = zip2 (λ x b. x * 2 ^ b % 2 ^ 32) a (replicate n (32 - k)) in
      let right_long : length right ≡ length a = length-zip2 _ a (replicate n k) (omega (arith, length-replicate n k)) in
      let left_long : length left ≡ length a = length-zip2 _ a (replicate n (32 - k)) (omega (arith, length-replicate n (32 - k))) in
      get_or-zip2 bit_or right left j 0 0 0 (omega arith) (omega arith)
      ∙ (ap₂ bit_or (with_number (λ x b. x / 2 ^ b) k a long j less) (with_number (λ x b. x * 2 ^ b % 2 ^ 32) (32 - k) a long j less)
      ∙ rw (same, rest) refl)

  -- the bits of each lane that another lacks
  pub lacks : (a b : List ℕ) → length a ≡ n → length b ≡ n → (j : ℕ) → j < n
      → slice_index (zip2 bit_and (map (bit_not w32) a) b) j ≡ bit_and (bit_not w32 (slice_index a j)) (slice_index b j)
  lacks a b la lb j less =
      get_or-zip2 bit_and (map (bit_not w32) a) b j (bit_not w32 0) 0 0 (omega (arith, length-map a (bit_not w32))) (omega arith)
      ∙ ap (λ (x : ℕ). bit_and x (slice_index b j)) (get_or-map (bit_not w32) a j 0)
