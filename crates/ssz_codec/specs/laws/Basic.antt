-- The codecs of basic values keep the law. Proofs, not definitions.
use Rattle.std.proofs.Common.{◌≡◌, ℕ, zero, suc, ◌+◌, ◌-◌, ◌*◌, ◌/◌, ◌%◌, ◌^◌, ◌<◌, ◌≤◌, Bool, true, false, cond, List, [], ◌∷◌, ◌++◌, length, take, drop, Option, Some, None, refl, sym, ap, subst, ◌∙◌, arith, inl, inr}
use Rattle.std.specs.Prelude.{nat_lt, ◌==◌, replicate}
use Rattle.std.proofs.lemmas.List.{take_all, take_at, drop_at, take-append-drop, length-append, length-take, length-take-le, length-drop, append-nil}
use Rattle.std.proofs.lemmas.Bool.{cases_lt, ltb-true, lt-ltb, le-ltb, eqb-true, eqb-false, eq-eqb, ne_eqb}
use Rattle.std.proofs.Math.Pow.{pow_mono}
use Rattle.hash_tree.proofs.Bits.{bits_bytes_one}
use Rattle.std.proofs.lemmas.Nat.{le_bytes_8, from_le_bytes-to_le_bytes_8}
use Rattle.hash_tree.specs.Merkle.{uint_to_bytes, bytes_to_uint64, bool_bytes, bits_number, packed_bits, bits_bytes, merkle_root, merkleize, depth_of, depth_from, chunk_count, chunks_of, byte_chunks, padded_chunk}
use Rattle.ssz_codec.specs.Layout.{◌and_then◌}
use Rattle.ssz_codec.specs.Basic.{uint64, parse_bool, boolean, bytes_codec, bytes32, number_bits, first_bits, parse_bits, bitvector}
use Rattle.ssz_codec.specs.Lawful.{IsBytes, IsLawful, IsFixed}
use Rattle.ssz_codec.specs.laws.Layout.{when_some, unless_some, bind_some, some_is}

pub number_fits : (n : ℕ) → IsBytes (uint_to_bytes n)
unfolding uint_to_bytes
number_fits n zero = omega arith
number_fits n (suc zero) = omega arith
number_fits n (suc (suc zero)) = omega arith
number_fits n (suc (suc (suc zero))) = omega arith
number_fits n (suc (suc (suc (suc zero)))) = omega arith
number_fits n (suc (suc (suc (suc (suc zero))))) = omega arith
number_fits n (suc (suc (suc (suc (suc (suc zero)))))) = omega arith
number_fits n (suc (suc (suc (suc (suc (suc (suc zero))))))) = omega arith
number_fits n (suc (suc (suc (suc (suc (suc (suc (suc i)))))))) = omega arith

bool_fits : (b : Bool) → IsBytes (bool_bytes b)
bool_fits true zero = omega arith
bool_fits false zero = omega arith
bool_fits b (suc i) = omega arith

number_back : (bytes : List ℕ) → length bytes ≡ 8 → IsBytes bytes → uint_to_bytes (bytes_to_uint64 bytes) ≡ bytes
unfolding uint_to_bytes
number_back bytes len fits = le_bytes_8 bytes _ len fits refl

number_below : (bytes : List ℕ) → IsBytes bytes → bytes_to_uint64 bytes < 2 ^ 64
number_below bytes fits = omega (arith, fits 0, fits 1, fits 2, fits 3, fits 4, fits 5, fits 6, fits 7)

number_again : (n : ℕ) → n < 2 ^ 64 → bytes_to_uint64 (uint_to_bytes n) ≡ n
unfolding uint_to_bytes
number_again n lt = from_le_bytes-to_le_bytes_8 n lt

pub number_len : (n : ℕ) → length (uint_to_bytes n) ≡ 8
unfolding uint_to_bytes
number_len n = refl

pub uint64_lawful : IsLawful uint64
uint64_lawful = record {
  sound = λ bytes v fits e.
      let w = when_some (length bytes == 8) (Some (bytes_to_uint64 bytes)) v e in
      let v-is : bytes_to_uint64 bytes ≡ v = some_is _ _ w.1 in
      (subst (λ n. n < 2 ^ 64) v-is (number_below bytes fits), sym (number_back bytes (eqb-true _ _ w.0) fits) ∙ ap uint_to_bytes v-is);
  complete = λ v within.
      ap (λ b. cond b (Some (bytes_to_uint64 (uint_to_bytes v))) None) (eq-eqb _ _ (number_len v)) ∙ ap (λ n. Some n) (number_again v within);
  size = λ v within. number_len v;
  bytes = λ v within. number_fits v;
}

pub uint64_is_fixed : IsFixed uint64.field
uint64_is_fixed = omega arith

bool_sound : (bytes : List ℕ) (v : Bool) → parse_bool bytes ≡ Some v → bytes ≡ bool_bytes v
bool_sound [] v e = absurd cc
bool_sound (zero ∷ []) v e = ap bool_bytes (some_is false v e)
bool_sound (suc zero ∷ []) v e = ap bool_bytes (some_is true v e)
bool_sound (suc (suc n) ∷ []) v e = absurd cc
bool_sound (n ∷ m ∷ bytes) v e = absurd cc

bool_complete : (v : Bool) → parse_bool (bool_bytes v) ≡ Some v
bool_complete true = refl
bool_complete false = refl

pub boolean_lawful : IsLawful boolean
boolean_lawful = record {
  sound = λ bytes v fits e. (tt, bool_sound bytes v e);
  complete = λ v within. bool_complete v;
  size = λ v within. refl;
  bytes = λ v within. bool_fits v;
}

pub bytes_lawful : (n : ℕ) → IsLawful (bytes_codec n)
bytes_lawful n = record {
  sound = λ bytes v fits e.
      let w = when_some (length bytes == n) (Some bytes) v e in
      let v-is : bytes ≡ v = some_is _ _ w.1 in
      (subst (λ (l : List ℕ). (length l ≡ n) × IsBytes l) v-is (eqb-true _ _ w.0, fits), v-is);
  complete = λ v within. ap (λ b. cond b (Some v) None) (eq-eqb _ _ within.0);
  size = λ v within. within.0;
  bytes = λ v within. within.1;
}

pub bytes32_lawful : IsLawful bytes32
bytes32_lawful =
    let law = bytes_lawful 32 in
    record { sound = law.sound; complete = law.complete; size = law.size; bytes = law.bytes }

pub bytes32_is_fixed : IsFixed bytes32.field
bytes32_is_fixed = omega arith

one_chunk : (v : List ℕ) → length v ≡ 32 → merkleize (byte_chunks v) (chunk_count 32) ≡ v
unfolding merkleize depth_of depth_from merkle_root chunks_of padded_chunk
one_chunk v e =
    ap (λ n. merkleize (chunks_of ((n + 31) / 32) v) (chunk_count 32)) e
    ∙ ap padded_chunk (take_all 32 v (omega arith))
    ∙ ap (λ n. v ++ replicate (32 - n) 0) e
    ∙ append-nil v

-- the root of 32 bytes by the rule of all vectors of bytes
pub bytes32_root : (v : List ℕ) → length v ≡ 32 → bytes32.hash_tree_root v ≡ (bytes_codec 32).hash_tree_root v
bytes32_root v e = sym (one_chunk v e)

-- ---- bits

half_of : (b : Bool) (n : ℕ) → (n % 2 == 1) ≡ b → cond b 1 0 + 2 * (n / 2) ≡ n
half_of true n e = let odd : n % 2 ≡ 1 = eqb-true _ _ e in omega arith
half_of false n e = let even : n % 2 ≡ 1 → ⊥ = eqb-false _ _ e in omega arith

pub halves : (n : ℕ) → cond (n % 2 == 1) 1 0 + 2 * (n / 2) ≡ n
halves n = half_of (n % 2 == 1) n refl

pub pow-step : (k : ℕ) → 2 ^ suc k ≡ 2 * 2 ^ k
pow-step k = grind arith

pub bits_of_number : (count n : ℕ) → n < 2 ^ count → bits_number (number_bits count n) ≡ n
bits_of_number zero n lt = omega arith
bits_of_number (suc count) n lt =
    let below : n / 2 < 2 ^ count = omega (arith, pow-step count) in
    ap (λ m. cond (n % 2 == 1) 1 0 + 2 * m) (bits_of_number count (n / 2) below) ∙ halves n

pub number_bits_len : (count n : ℕ) → length (number_bits count n) ≡ count
number_bits_len zero n = refl
number_bits_len (suc count) n = ap suc (number_bits_len count (n / 2))

pub bits_below : (bits : List Bool) → bits_number bits < 2 ^ length bits
bits_below [] = omega arith
bits_below (true ∷ bits) = omega (arith, bits_below bits, pow-step (length bits))
bits_below (false ∷ bits) = omega (arith, bits_below bits, pow-step (length bits))

pub first_bit : (b : Bool) (m : ℕ) → ((cond b 1 0 + 2 * m) % 2 == 1) ≡ b
first_bit true m = eq-eqb _ _ (omega arith)
first_bit false m = ne_eqb _ _ (λ h. omega arith)

pub other_bits : (b : Bool) (m : ℕ) → (cond b 1 0 + 2 * m) / 2 ≡ m
other_bits true m = omega arith
other_bits false m = omega arith

pub bits_again : (bits : List Bool) → number_bits (length bits) (bits_number bits) ≡ bits
bits_again [] = refl
bits_again (b ∷ bits) =
    ap (λ c. c ∷ number_bits (length bits) ((cond b 1 0 + 2 * bits_number bits) / 2)) (first_bit b (bits_number bits))
    ∙ ap (λ n. b ∷ number_bits (length bits) n) (other_bits b (bits_number bits))
    ∙ ap (λ (l : List Bool). b ∷ l) (bits_again bits)

-- ---- bytes of bits

packed_count : (count : ℕ) (bits : List Bool) → length (packed_bits count bits) ≡ count
unfolding packed_bits
packed_count zero bits = refl
packed_count (suc count) bits = ap suc (packed_count count (drop 8 bits))

pub bits_bytes_len : (bits : List Bool) → length (bits_bytes bits) ≡ (length bits + 7) / 8
bits_bytes_len bits = packed_count ((length bits + 7) / 8) bits

packed_step : (count more : ℕ) (front bits : List Bool) → count ≡ suc more → length front ≡ 8 → packed_bits count (front ++ bits) ≡ bits_number front ∷ packed_bits more bits
unfolding packed_bits
packed_step count more front bits e l = rw e (
    ap (λ t. bits_number t ∷ packed_bits more (drop 8 (front ++ bits))) (take_at front bits 8 l)
    ∙ ap (λ t. bits_number front ∷ packed_bits more t) (drop_at front bits 8 l))

-- a whole byte before the others
pub bits_bytes_step : (front bits : List Bool) → length front ≡ 8 → bits_bytes (front ++ bits) ≡ bits_number front ∷ bits_bytes bits
bits_bytes_step front bits l =
    packed_step ((length (front ++ bits) + 7) / 8) ((length bits + 7) / 8) front bits (omega (arith, length-append front bits)) l

-- bits are packed into bytes
pub packed_fits : (count : ℕ) (bits : List Bool) → IsBytes (packed_bits count bits)
unfolding packed_bits
packed_fits zero bits i = omega arith
packed_fits (suc count) bits zero =
    let few : length (take 8 bits) ≤ 8 = omega (arith, length-take 8 bits) in
    let high : 2 ^ length (take 8 bits) ≤ 2 ^ 8 = pow_mono {i = length (take 8 bits)} {j = 8} few in
    omega (arith, bits_below (take 8 bits))
packed_fits (suc count) bits (suc i) = packed_fits count (drop 8 bits) i

pub bits_bytes_nil : bits_bytes [] ≡ []
unfolding packed_bits
bits_bytes_nil = refl

-- ---- Bitvector[N]

first_few : (count : ℕ) → count < 8 → first_bits count ≡ count
first_few count less = ap (λ b. cond b count 8) (lt-ltb count 8 less)

first_eight : (count : ℕ) → 8 ≤ count → first_bits count ≡ 8
first_eight count more = ap (λ b. cond b count 8) (le-ltb count 8 more)

nothing_of : {A : Type 0} (xs : List A) → length xs ≡ 0 → xs ≡ []
nothing_of [] e = refl
nothing_of (x ∷ xs) e = absurd (omega arith)

-- a byte and the bits behind it
byte_before : (count n : ℕ) (bytes : List ℕ) (b : List Bool) → 0 < count → n < 2 ^ first_bits count → length b ≡ count - 8 → bytes ≡ bits_bytes b
    → (length (number_bits (first_bits count) n ++ b) ≡ count) × (n ∷ bytes ≡ bits_bytes (number_bits (first_bits count) n ++ b))
byte_before count n bytes b some below long e =
    elim (cases_lt count 8) [
      | inl less ↦
          let k-is = first_few count less in
          let none : b ≡ [] = nothing_of b (omega arith) in
          let bits-are : number_bits (first_bits count) n ++ b ≡ number_bits count n = ap (λ k. number_bits k n ++ b) k-is ∙ ap (λ (l : List Bool). number_bits count n ++ l) none ∙ append-nil (number_bits count n) in
          let len : length (number_bits count n) ≡ count = number_bits_len count n in
          let low : n < 2 ^ count = subst (λ k. n < 2 ^ k) k-is below in
          let bytes-are : bytes ≡ [] = e ∙ ap bits_bytes none ∙ bits_bytes_nil in (
            ap length bits-are ∙ len,
            ap (λ (l : List ℕ). n ∷ l) bytes-are ∙ ap (λ k. k ∷ []) (sym (bits_of_number count n low)) ∙ sym (bits_bytes_one (number_bits count n) (omega arith) (omega arith)) ∙ ap bits_bytes (sym bits-are),
          )
      | inr more ↦
          let k-is = first_eight count more in
          let low : n < 2 ^ 8 = subst (λ k. n < 2 ^ k) k-is below in
          let bits-are : number_bits (first_bits count) n ++ b ≡ number_bits 8 n ++ b = ap (λ k. number_bits k n ++ b) k-is in (
            ap length bits-are ∙ omega (arith, length-append (number_bits 8 n) b, number_bits_len 8 n),
            ap (λ (l : List ℕ). n ∷ l) e ∙ ap (λ k. k ∷ bits_bytes b) (sym (bits_of_number 8 n low)) ∙ sym (bits_bytes_step (number_bits 8 n) b (number_bits_len 8 n)) ∙ ap bits_bytes (sym bits-are),
          )
    ]

bits_sound : (count : ℕ) (bytes : List ℕ) (v : List Bool) → parse_bits count bytes ≡ Some v → (length v ≡ count) × (bytes ≡ bits_bytes v)
bits_sound count [] v e =
    let w = when_some (count == 0) (Some []) v e in
    let P : List Bool → Type 0 = λ l. (length l ≡ count) × ([] ≡ bits_bytes l) in
    subst P (some_is _ _ w.1) (sym (eqb-true _ _ w.0), sym bits_bytes_nil)
bits_sound count (n ∷ bytes) v e =
    let behind = parse_bits (count - 8) bytes and_then λ bits. Some (number_bits (first_bits count) n ++ bits) in
    let some = unless_some (count == 0) (cond (nat_lt n (2 ^ first_bits count)) behind None) v e in
    let low = when_some (nat_lt n (2 ^ first_bits count)) behind v some.1 in
    let b = bind_some (parse_bits (count - 8) bytes) (λ bits. Some (number_bits (first_bits count) n ++ bits)) v low.1 in
    let h = bits_sound (count - 8) bytes b.0 b.1 in
    let P : List Bool → Type 0 = λ l. (length l ≡ count) × (n ∷ bytes ≡ bits_bytes l) in
    let above : count ≡ 0 → ⊥ = eqb-false _ _ some.0 in
    subst P (some_is _ _ b.2) (byte_before count n bytes b.0 (omega arith) (ltb-true _ _ low.0) h.0 h.1)

-- the bits of a byte and those behind it
byte_read : (count n : ℕ) (bytes : List ℕ) (b : List Bool) → 0 < count → n < 2 ^ first_bits count → parse_bits (count - 8) bytes ≡ Some b
    → parse_bits count (n ∷ bytes) ≡ Some (number_bits (first_bits count) n ++ b)
byte_read count n bytes b some below e =
    let behind = parse_bits (count - 8) bytes and_then λ bits. Some (number_bits (first_bits count) n ++ bits) in
    ap (λ t. cond t None (cond (nat_lt n (2 ^ first_bits count)) behind None)) (ne_eqb count 0 (λ h. omega arith))
    ∙ ap (λ t. cond t behind None) (lt-ltb n (2 ^ first_bits count) below)
    ∙ ap (λ (o : Option (List Bool)). o and_then λ bits. Some (number_bits (first_bits count) n ++ bits)) e

few_again : (bits : List Bool) → length bits < 8 → parse_bits (length bits) (bits_bytes bits) ≡ Some bits
few_again [] less = ap (parse_bits 0) bits_bytes_nil
few_again (b ∷ bits) less =
    let all = b ∷ bits in
    let count = length all in
    let k-is = first_few count less in
    let none : parse_bits (count - 8) [] ≡ Some [] = ap (λ k. parse_bits k []) (let z : count - 8 ≡ 0 = omega arith in z) in
    ap (parse_bits count) (bits_bytes_one all (omega arith) (omega arith))
    ∙ byte_read count (bits_number all) [] [] (omega arith) (subst (λ k. bits_number all < 2 ^ k) (sym k-is) (bits_below all)) none
    ∙ ap (λ k. Some (number_bits k (bits_number all) ++ [])) k-is
    ∙ ap (λ (l : List Bool). Some l) (append-nil (number_bits count (bits_number all)) ∙ bits_again all)

again_at : (count : ℕ) (bits : List Bool) → length bits / 8 ≡ count → parse_bits (length bits) (bits_bytes bits) ≡ Some bits
again_at zero bits e = few_again bits (omega arith)
again_at (suc count) bits e =
    let front = take 8 bits in
    let more = drop 8 bits in
    let l : length front ≡ 8 = length-take-le 8 bits (omega arith) in
    let split : front ++ more ≡ bits = take-append-drop 8 bits in
    let k-is = first_eight (length bits) (omega arith) in
    let rest : length bits - 8 ≡ length more = omega (arith, length-drop 8 bits) in
    let ih : parse_bits (length bits - 8) (bits_bytes more) ≡ Some more = ap (λ k. parse_bits k (bits_bytes more)) rest ∙ again_at count more (omega (arith, length-drop 8 bits)) in
    let low : bits_number front < 2 ^ first_bits (length bits) = subst (λ k. bits_number front < 2 ^ k) (l ∙ sym k-is) (bits_below front) in
    let again : number_bits 8 (bits_number front) ≡ front = ap (λ k. number_bits k (bits_number front)) (sym l) ∙ bits_again front in
    ap (λ t. parse_bits (length bits) (bits_bytes t)) (sym split)
    ∙ ap (parse_bits (length bits)) (bits_bytes_step front more l)
    ∙ byte_read (length bits) (bits_number front) (bits_bytes more) more (omega arith) low ih
    ∙ ap (λ k. Some (number_bits k (bits_number front) ++ more)) k-is
    ∙ ap (λ (t : List Bool). Some (t ++ more)) again
    ∙ ap (λ (t : List Bool). Some t) split

pub bitvector_lawful : (count : ℕ) → IsLawful (bitvector count)
bitvector_lawful count = record {
  sound = λ bytes v fits e. bits_sound count bytes v e;
  complete = λ v within. ap (λ k. parse_bits k (bits_bytes v)) (sym within) ∙ again_at (length v / 8) v refl;
  size = λ v within. bits_bytes_len v ∙ ap (λ k. (k + 7) / 8) within;
  bytes = λ v within. packed_fits ((length v + 7) / 8) v;
}
