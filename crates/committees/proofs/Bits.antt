-- The bits of a word that two bytes of a page make.
use Rattle.std.proofs.Common.{◌≡◌, ℕ, ◌+◌, ◌-◌, ◌*◌, ◌/◌, ◌%◌, ◌^◌, ◌<◌, List, [], ◌∷◌, get_or, ap, ◌∙◌, arith, inl, inr}
use Rattle.std.specs.Int.{bit_at, from_le_bytes, w16}
use Rattle.std.proofs.lemmas.Bool.{cases_lt}
use Rattle.std.proofs.lemmas.Nat.Bits.{bit_at_cat_low, bit_at_cat_high}
use Rattle.committees.specs.Shuffling.{bit_in}

two_bytes : (low high : ℕ) → from_le_bytes w16 (low ∷ high ∷ []) ≡ high * 2 ^ 8 + low
two_bytes low high = omega arith

-- sixteen bits from a multiple of sixteen on are those of two bytes
pub sixteen : (source : List ℕ) (first byte word : ℕ) → ((i : ℕ) → get_or source i 0 < 256) → first % 16 ≡ 0 → byte ≡ first % 256 / 8 → word ≡ from_le_bytes w16 (get_or source byte 0 ∷ get_or source (byte + 1) 0 ∷ []) → (j : ℕ) → j < 16 → bit_at word j ≡ bit_in source (first + j)
unfolding bit_in
sixteen source first byte word small aligned at is j less =
    let low = get_or source byte 0 in
    let high = get_or source (byte + 1) 0 in
    ap (λ n. bit_at n j) (is ∙ two_bytes low high)
    ∙ elim (cases_lt j 8) [
      | inl first_byte ↦
          let here : byte ≡ (first + j) % 256 / 8 = omega arith in
          let bit : j ≡ (first + j) % 8 = omega arith in
          bit_at_cat_low high 8 low j first_byte
          ∙ ap (λ k. bit_at (get_or source k 0) j) here ∙ ap (bit_at (get_or source ((first + j) % 256 / 8) 0)) bit
      | inr next_byte ↦
          let here : byte + 1 ≡ (first + j) % 256 / 8 = omega arith in
          let behind : j - 8 ≡ (first + j) % 8 = omega arith in
          bit_at_cat_high high 8 low j (small byte) next_byte
          ∙ ap (λ k. bit_at (get_or source k 0) (j - 8)) here ∙ ap (bit_at (get_or source ((first + j) % 256 / 8) 0)) behind
    ]
