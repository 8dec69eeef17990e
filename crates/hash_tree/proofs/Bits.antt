-- The number of four bits, and their byte.
use Rattle.std.proofs.Common.{◌≡◌, ℕ, ◌+◌, ◌*◌, ◌/◌, ◌<◌, ◌≤◌, Bool, true, false, cond, List, [], ◌∷◌, length, take, drop, get_or, refl, ap, ◌∙◌, arith}
use mir.Val.{bool_byte}
use Rattle.std.proofs.lemmas.List.{take_all}
use Rattle.hash_tree.specs.Merkle.{bits_number, packed_bits, bits_bytes}

byte_of : (b : Bool) → bool_byte b ≡ cond b 1 0
byte_of true = refl
byte_of false = refl

pub four_bits : (bits : List Bool) (a b c d : ℕ) → length bits ≡ 4
    → a ≡ bool_byte (get_or bits 0 false) → b ≡ bool_byte (get_or bits 1 false) → c ≡ bool_byte (get_or bits 2 false) → d ≡ bool_byte (get_or bits 3 false)
    → a + 2 * (b + 2 * (c + 2 * d)) ≡ bits_number bits
four_bits [] a b c d long one two three four = absurd (omega (arith, long))
four_bits (w ∷ []) a b c d long one two three four = absurd (omega (arith, long))
four_bits (w ∷ x ∷ []) a b c d long one two three four = absurd (omega (arith, long))
four_bits (w ∷ x ∷ y ∷ []) a b c d long one two three four = absurd (omega (arith, long))
four_bits (w ∷ x ∷ y ∷ z ∷ []) a b c d long one two three four =
    let first : a ≡ cond w 1 0 = one ∙ byte_of w in
    let second : b ≡ cond x 1 0 = two ∙ byte_of x in
    let third : c ≡ cond y 1 0 = three ∙ byte_of y in
    let fourth : d ≡ cond z 1 0 = four ∙ byte_of z in
    omega arith
four_bits (w ∷ x ∷ y ∷ z ∷ v ∷ rest) a b c d long one two three four = absurd (omega (arith, long))

packed_one : (count : ℕ) (bits : List Bool) → count ≡ 1 → length bits ≤ 8 → packed_bits count bits ≡ bits_number bits ∷ []
unfolding packed_bits
packed_one count bits e l = rw e (ap (λ t. bits_number t ∷ []) (take_all 8 bits l))

-- at most one byte
pub bits_bytes_one : (bits : List Bool) → 0 < length bits → length bits ≤ 8 → bits_bytes bits ≡ bits_number bits ∷ []
bits_bytes_one bits some l = packed_one ((length bits + 7) / 8) bits (omega arith) l
