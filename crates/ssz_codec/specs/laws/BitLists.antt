-- The codec of lists of bits keeps the law, and what the bytes of a list of bits are. Proofs, not definitions.
use Rattle.std.proofs.Common.{◌≡◌, ℕ, zero, suc, ◌+◌, ◌*◌, ◌/◌, ◌%◌, ◌^◌, ◌<◌, ◌≤◌, Bool, true, false, cond, List, [], ◌∷◌, ◌++◌, length, take, drop, Some, None, Result, Ok, Err, refl, sym, ap, subst, ◌∙◌, append_assoc, arith}
use Rattle.std.specs.Prelude.{nat_lt, ◌==◌}
use Rattle.std.specs.List.{flat_map}
use Rattle.std.proofs.lemmas.Bool.{lt-ltb, ltb-false, le-ltb, eqb-true, ne_eqb}
use Rattle.std.proofs.Math.Pow.{pow_pos}
use Rattle.std.proofs.lemmas.List.{take-append-drop, length-append, length-take-le, length-drop}
use Rattle.ssz_codec.specs.Layout.{◌and_then◌}
use Rattle.ssz_codec.specs.Basic.{number_bits}
use Rattle.hash_tree.specs.Merkle.{bits_number, bits_bytes}
use Rattle.ssz_codec.specs.BitLists.{bit_list_bytes, bits_below_top, bits_before_end, parse_bit_list, bitlist}
use Rattle.ssz_codec.specs.declared.fault.SszFault.{SszFault}
use Rattle.ssz_codec.specs.declared.fault.SszFault.TheVariants.{NotAWriting, NoMemory}
use Rattle.ssz_codec.specs.Reads.{ReadsAs, Reads}
use Rattle.ssz_codec.specs.Lawful.{IsBytes, IsLawful}
use Rattle.ssz_codec.specs.laws.Layout.{bind_some, some_is, unless_some}
use Rattle.ssz_codec.specs.laws.Basic.{bits_of_number, number_bits_len, bits_again, first_bit, other_bits, halves, pow-step, bits_bytes_len, bits_bytes_step, packed_fits}
use Rattle.hash_tree.proofs.Bits.{bits_bytes_one}

-- ---- the writing, byte by byte

pub writing_step : (front bits : List Bool) → length front ≡ 8 → bit_list_bytes (front ++ bits) ≡ bits_number front ∷ bit_list_bytes bits
unfolding bit_list_bytes
writing_step front bits l = ap bits_bytes (append_assoc front bits (true ∷ [])) ∙ bits_bytes_step front (bits ++ true ∷ []) l

pub writing_one : (bits : List Bool) → length bits < 8 → bit_list_bytes bits ≡ bits_number (bits ++ true ∷ []) ∷ []
unfolding bit_list_bytes
writing_one bits l =
    let n : length (bits ++ true ∷ []) ≡ length bits + 1 = length-append bits (true ∷ []) in
    bits_bytes_one (bits ++ true ∷ []) (omega arith) (omega arith)

writing_some : (bits : List Bool) → 0 < length (bit_list_bytes bits)
unfolding bit_list_bytes
writing_some bits = omega (arith, bits_bytes_len (bits ++ true ∷ []), length-append bits (true ∷ []))

-- ---- the last byte

top_number : (bits : List Bool) → 0 < bits_number (bits ++ true ∷ [])
top_number [] = omega arith
top_number (b ∷ bits) = omega (arith, top_number bits)

top_one : (places : ℕ) → bits_below_top (suc places) 1 ≡ Some []
unfolding bits_below_top
top_one places = refl

below_top_more : (places n : ℕ) → 1 < n → bits_below_top (suc places) n ≡ (bits_below_top places (n / 2) and_then λ bits. Some ((n % 2 == 1) ∷ bits))
unfolding bits_below_top
below_top_more places n more =
    let rest = bits_below_top places (n / 2) and_then λ bits. Some ((n % 2 == 1) ∷ bits) in
    ap (λ t. cond t None (cond (n == 1) (Some []) rest)) (ne_eqb n 0 (λ h. omega arith)) ∙ ap (λ t. cond t (Some []) rest) (ne_eqb n 1 (λ h. omega arith))

abbrev IsBelowTop : ℕ → ℕ → List Bool → Type 0
IsBelowTop places n bits = (n ≡ bits_number (bits ++ true ∷ [])) × (length bits < places)

top_case : (places n : ℕ) (bits : List Bool) (b : Bool) → ((m : ℕ) (more : List Bool) → bits_below_top places m ≡ Some more → IsBelowTop places m more) → (n == 1) ≡ b → cond b (Some []) (bits_below_top places (n / 2) and_then λ more. Some ((n % 2 == 1) ∷ more)) ≡ Some bits → IsBelowTop (suc places) n bits
top_case places n bits true ih one e =
    let P : List Bool → Type 0 = λ t. IsBelowTop (suc places) n t in
    subst P (some_is [] bits e) (eqb-true _ _ one, omega arith)
top_case places n bits false ih one e =
    let w = bind_some (bits_below_top places (n / 2)) (λ more. Some ((n % 2 == 1) ∷ more)) bits e in
    let h = ih (n / 2) w.0 w.1 in
    let P : List Bool → Type 0 = λ t. IsBelowTop (suc places) n t in
    let same : n ≡ cond (n % 2 == 1) 1 0 + 2 * bits_number (w.0 ++ true ∷ []) = sym (halves n) ∙ ap (λ m. cond (n % 2 == 1) 1 0 + 2 * m) h.0 in
    let fits : suc (length w.0) < suc places = omega (arith, h.1) in
    subst P (some_is _ _ w.2) (same, fits)

top_sound : (places n : ℕ) (bits : List Bool) → bits_below_top places n ≡ Some bits → IsBelowTop places n bits
unfolding bits_below_top
top_sound zero n bits e = absurd cc
top_sound (suc places) n bits e =
    top_case places n bits (n == 1) (top_sound places) refl (unless_some (n == 0) _ bits e).1

top_complete : (places : ℕ) (bits : List Bool) → length bits < places → bits_below_top places (bits_number (bits ++ true ∷ [])) ≡ Some bits
top_complete zero bits l = absurd (omega arith)
top_complete (suc places) [] l = top_one places
top_complete (suc places) (b ∷ bits) l =
    let m = bits_number (bits ++ true ∷ []) in
    below_top_more places (cond b 1 0 + 2 * m) (omega (arith, top_number bits))
    ∙ ap (λ k. bits_below_top places k and_then λ more. Some (((cond b 1 0 + 2 * m) % 2 == 1) ∷ more)) (other_bits b m)
    ∙ ap (λ o. o and_then λ more. Some (((cond b 1 0 + 2 * m) % 2 == 1) ∷ more)) (top_complete places bits (omega arith))
    ∙ ap (λ c. Some (c ∷ bits)) (first_bit b m)

top_at : (places k n : ℕ) → k < places → 2 ^ k ≤ n → n < 2 * 2 ^ k → bits_below_top places n ≡ Some (number_bits k n)
top_at zero k n l low high = absurd (omega arith)
top_at (suc places) zero n l low high = ap (bits_below_top (suc places)) (let one : n ≡ 1 = omega arith in one) ∙ top_one places
top_at (suc places) (suc k) n l low high =
    let p = pow-step k in
    below_top_more places n (omega (arith, pow_pos k))
    ∙ ap (λ o. o and_then λ more. Some ((n % 2 == 1) ∷ more)) (top_at places k (n / 2) (omega arith) (omega arith) (omega arith))

top_zero : (places : ℕ) → bits_below_top places 0 ≡ None
unfolding bits_below_top
top_zero zero = refl
top_zero (suc places) = refl

-- ---- all bytes

before_end_one : (n : ℕ) → bits_before_end (n ∷ []) ≡ bits_below_top 8 n
unfolding bits_before_end
before_end_one n = refl

before_end_more : (n : ℕ) (bytes : List ℕ) → 0 < length bytes → bits_before_end (n ∷ bytes) ≡ (bits_before_end bytes and_then λ bits. Some (number_bits 8 n ++ bits))
unfolding bits_before_end
before_end_more n [] h = absurd (omega arith)
before_end_more n (m ∷ bytes) h = refl

before_end_sound : (bytes : List ℕ) (bits : List Bool) → IsBytes bytes → bits_before_end bytes ≡ Some bits → bytes ≡ bit_list_bytes bits
unfolding bits_before_end
before_end_sound [] bits fits e = absurd cc
before_end_sound (n ∷ []) bits fits e =
    let h = top_sound 8 n bits e in
    ap (λ m. m ∷ []) h.0 ∙ sym (writing_one bits h.1)
before_end_sound (n ∷ m ∷ bytes) bits fits e =
    let w = bind_some (bits_before_end (m ∷ bytes)) (λ more. Some (number_bits 8 n ++ more)) bits e in
    let h = before_end_sound (m ∷ bytes) w.0 (λ i. fits (suc i)) w.1 in
    let below : n < 2 ^ 8 = fits 0 in
    ap (λ t. n ∷ t) h
    ∙ ap (λ k. k ∷ bit_list_bytes w.0) (sym (bits_of_number 8 n below))
    ∙ sym (writing_step (number_bits 8 n) w.0 (number_bits_len 8 n))
    ∙ ap bit_list_bytes (some_is _ _ w.2)

before_end_at : (count : ℕ) (bits : List Bool) → length bits / 8 ≡ count → bits_before_end (bit_list_bytes bits) ≡ Some bits
before_end_at zero bits e =
    let l : length bits < 8 = omega arith in
    ap bits_before_end (writing_one bits l) ∙ before_end_one (bits_number (bits ++ true ∷ [])) ∙ top_complete 8 bits l
before_end_at (suc count) bits e =
    let front = take 8 bits in
    let more = drop 8 bits in
    let l : length front ≡ 8 = length-take-le 8 bits (omega arith) in
    let ih : bits_before_end (bit_list_bytes more) ≡ Some more = before_end_at count more (omega (arith, length-drop 8 bits)) in
    let split : front ++ more ≡ bits = take-append-drop 8 bits in
    let again : number_bits 8 (bits_number front) ≡ front = ap (λ k. number_bits k (bits_number front)) (sym l) ∙ bits_again front in
    ap (λ t. bits_before_end (bit_list_bytes t)) (sym split)
    ∙ ap bits_before_end (writing_step front more l)
    ∙ before_end_more (bits_number front) (bit_list_bytes more) (writing_some more)
    ∙ ap (λ o. o and_then λ t. Some (number_bits 8 (bits_number front) ++ t)) ih
    ∙ ap (λ t. Some (t ++ more)) again
    ∙ ap (λ (t : List Bool). Some t) split

pub before_end_complete : (bits : List Bool) → bits_before_end (bit_list_bytes bits) ≡ Some bits
before_end_complete bits = before_end_at (length bits / 8) bits refl

not_none : (bits : List Bool) → Some bits ≡ None → ⊥
not_none bits e = cc

pub bit_list_sound : (limit : ℕ) (bytes : List ℕ) (bits : List Bool) → IsBytes bytes → parse_bit_list limit bytes ≡ Some bits → (length bits ≤ limit) × (bytes ≡ bit_list_bytes bits)
unfolding parse_bit_list
bit_list_sound limit bytes bits fits e =
    let w = bind_some (bits_before_end bytes) (λ all. cond (nat_lt limit (length all)) None (Some all)) bits e in
    let h = unless_some (nat_lt limit (length w.0)) (Some w.0) bits w.2 in
    let P : List Bool → Type 0 = λ t. (length t ≤ limit) × (bytes ≡ bit_list_bytes t) in
    subst P (some_is _ _ h.1) (ltb-false _ _ h.0, before_end_sound bytes w.0 fits w.1)

pub bit_list_complete : (limit : ℕ) (bits : List Bool) → length bits ≤ limit → parse_bit_list limit (bit_list_bytes bits) ≡ Some bits
unfolding parse_bit_list
bit_list_complete limit bits l =
    ap (λ o. o and_then λ all. cond (nat_lt limit (length all)) None (Some all)) (before_end_complete bits)
    ∙ ap (λ b. cond b None (Some bits)) (le-ltb _ _ l)

list_fits : (bits : List Bool) → IsBytes (bit_list_bytes bits)
unfolding bit_list_bytes
list_fits bits = packed_fits ((length (bits ++ true ∷ []) + 7) / 8) (bits ++ true ∷ [])

pub bitlist_lawful : (limit : ℕ) → IsLawful (bitlist limit)
bitlist_lawful limit = record {
  sound = λ bytes bits fits e. bit_list_sound limit bytes bits fits e;
  complete = λ bits l. bit_list_complete limit bits l;
  size = λ bits l. tt;
  bytes = λ bits l. list_fits bits;
}

pub reads_from_gives : (limit : ℕ) (bytes : List ℕ) (r : Result (List Bool) SszFault) → IsBytes bytes → ReadsAs r (parse_bit_list limit bytes) → Reads (bitlist limit) r bytes
reads_from_gives limit bytes (Ok bits) fits e = bit_list_sound limit bytes bits fits e
reads_from_gives limit bytes (Err NotAWriting) fits e = λ bits l w.
    absurd (not_none bits (sym (bit_list_complete limit bits l) ∙ ap (parse_bit_list limit) (sym w) ∙ e))
reads_from_gives limit bytes (Err NoMemory) fits e = tt

-- two lists of bits never share a writing
pub one_bit_list : (a b : List Bool) → bit_list_bytes a ≡ bit_list_bytes b → a ≡ b
one_bit_list a b e = some_is a b (sym (before_end_complete a) ∙ ap bits_before_end e ∙ before_end_complete b)

-- ---- bytes that are given as a front and a last byte

abbrev pub whole_bits : List ℕ → List Bool
whole_bits bytes = flat_map (number_bits 8) bytes

pub before_end_split : (front : List ℕ) (last k : ℕ) → k < 8 → 2 ^ k ≤ last → last < 2 * 2 ^ k → bits_before_end (front ++ last ∷ []) ≡ Some (whole_bits front ++ number_bits k last)
before_end_split [] last k l low high = before_end_one last ∙ top_at 8 k last l low high
before_end_split (n ∷ front) last k l low high =
    before_end_more n (front ++ last ∷ []) (omega (arith, length-append front (last ∷ [])))
    ∙ ap (λ o. o and_then λ t. Some (number_bits 8 n ++ t)) (before_end_split front last k l low high)
    ∙ ap (λ (t : List Bool). Some t) (sym (append_assoc (number_bits 8 n) (whole_bits front) (number_bits k last)))

pub before_end_zero : (front : List ℕ) → bits_before_end (front ++ 0 ∷ []) ≡ None
before_end_zero [] = before_end_one 0 ∙ top_zero 8
before_end_zero (n ∷ front) =
    before_end_more n (front ++ 0 ∷ []) (omega (arith, length-append front (0 ∷ [])))
    ∙ ap (λ o. o and_then λ t. Some (number_bits 8 n ++ t)) (before_end_zero front)

pub before_end_nil : bits_before_end [] ≡ None
unfolding bits_before_end
before_end_nil = refl

-- ---- reading, case by case

parse_none : (limit : ℕ) (bytes : List ℕ) → bits_before_end bytes ≡ None → parse_bit_list limit bytes ≡ None
unfolding parse_bit_list
parse_none limit bytes e = ap (λ o. o and_then λ bits. cond (nat_lt limit (length bits)) None (Some bits)) e

parse_with : (limit : ℕ) (bytes : List ℕ) (bits : List Bool) → bits_before_end bytes ≡ Some bits → parse_bit_list limit bytes ≡ cond (nat_lt limit (length bits)) None (Some bits)
unfolding parse_bit_list
parse_with limit bytes bits e = ap (λ o. o and_then λ more. cond (nat_lt limit (length more)) None (Some more)) e

pub reads_no_bytes : (limit : ℕ) (bytes : List ℕ) → length bytes ≡ 0 → parse_bit_list limit bytes ≡ None
reads_no_bytes limit [] e = parse_none limit [] before_end_nil
reads_no_bytes limit (n ∷ bytes) e = absurd (omega arith)

pub reads_no_delimiter : (limit last : ℕ) (bytes front : List ℕ) → bytes ≡ front ++ last ∷ [] → last ≡ 0 → parse_bit_list limit bytes ≡ None
reads_no_delimiter limit last bytes front e z =
    parse_none limit bytes (ap bits_before_end e ∙ ap (λ m. bits_before_end (front ++ m ∷ [])) z ∙ before_end_zero front)

pub length-whole_bits : (bytes : List ℕ) → length (whole_bits bytes) ≡ 8 * length bytes
length-whole_bits [] = refl
length-whole_bits (n ∷ bytes) = omega (arith, length-append (number_bits 8 n) (whole_bits bytes), number_bits_len 8 n, length-whole_bits bytes)

module _ (limit last place : ℕ) (bytes front : List ℕ) (split : bytes ≡ front ++ last ∷ []) (in_byte : place < 8) (low : 2 ^ place ≤ last) (high : last < 2 * 2 ^ place) where
  abbrev split_bits : List Bool
  split_bits = whole_bits front ++ number_bits place last

  split_len : length split_bits ≡ 8 * length front + place
  split_len = omega (arith, length-append (whole_bits front) (number_bits place last), length-whole_bits front, number_bits_len place last)

  split_parsed : parse_bit_list limit bytes ≡ cond (nat_lt limit (length split_bits)) None (Some split_bits)
  split_parsed = parse_with limit bytes split_bits (ap bits_before_end split ∙ before_end_split front last place in_byte low high)

  pub reads_too_long : limit < 8 * length front + place → parse_bit_list limit bytes ≡ None
  reads_too_long l = split_parsed ∙ ap (λ b. cond b None (Some split_bits)) (lt-ltb _ _ (omega (arith, split_len)))

  pub reads_bits : 8 * length front + place ≤ limit → parse_bit_list limit bytes ≡ Some split_bits
  reads_bits l = split_parsed ∙ ap (λ b. cond b None (Some split_bits)) (le-ltb _ _ (omega (arith, split_len)))
