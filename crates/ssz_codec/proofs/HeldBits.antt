-- how the bytes of a `BitList` hold its bits
use Rattle.std.proofs.Common.{◌≡◌, ℕ, zero, suc, ◌+◌, ◌-◌, ◌*◌, ◌/◌, ◌%◌, ◌^◌, ◌<◌, ◌≤◌, Bool, true, false, cond, List, [], ◌∷◌, ◌++◌, length, take, drop, get_or, Some, slice_get, nat_eq, bit_and, refl, sym, ap, subst, ◌∙◌, append_assoc, arith, pow_pos}
use Rattle.std.specs.Prelude.{◌==◌}
use Rattle.std.proofs.Math.Nat.{div-div-eq-div-mul, div-eq_of_lt, add-div_right}
use Rattle.std.proofs.Math.Pow.{pow_mono}
use Rattle.std.proofs.Math.Seq.{take-append-add}
use Rattle.std.proofs.lemmas.Grind.{and_numeral, flat_map-append, one_shifted}
use Rattle.std.proofs.lemmas.Option.{slice_get-get_or}
use Rattle.std.proofs.lemmas.List.{take_all, take-append-drop, length-append, length-take-le, length-drop, get_or_append_left, get_or-append_right, get_or-take, get_or_default, append-nil}
use Rattle.ssz_codec.specs.Basic.{number_bits}
use Rattle.hash_tree.specs.Merkle.{bits_number}
use Rattle.hash_tree.specs.Merkle.{bits_bytes}
use Rattle.hash_tree.proofs.Bits.{bits_bytes_one}
use Rattle.ssz_codec.specs.BitLists.{bit_list_bytes}
use Rattle.ssz_codec.specs.laws.Basic.{bits_bytes_len, bits_bytes_nil, bits_bytes_step, packed_fits}
use Rattle.ssz_codec.specs.inside.HeldBits.{held_bits, IsHeld}
use Rattle.ssz_codec.specs.declared.bit_list.BitList.TheInside.{Inside}
use Rattle.ssz_codec.specs.Lawful.{IsBytes}
use Rattle.ssz_codec.specs.laws.Basic.{bits_of_number, number_bits_len, bits_below, pow-step}
use Rattle.ssz_codec.specs.laws.BitLists.{whole_bits, length-whole_bits, writing_step, writing_one}

-- ---- one bit

bit_of_number : (places place n : ℕ) (d : Bool) → place < places → get_or (number_bits places n) place d ≡ (n / 2 ^ place % 2 == 1)
bit_of_number zero place n d l = absurd (omega arith)
bit_of_number (suc places) zero n d l = ap (λ m. m % 2 == 1) (let one : n ≡ n / 2 ^ 0 = omega arith in one)
bit_of_number (suc places) (suc place) n d l =
    bit_of_number places place (n / 2) d (omega arith)
    ∙ ap (λ m. m % 2 == 1) (div-div-eq-div-mul n 2 (2 ^ place) ∙ ap (λ m. n / m) (sym (pow-step place)))

bit_of_bytes : (bytes : List ℕ) (q r place : ℕ) (d : Bool) → place ≡ 8 * q + r → r < 8 → q < length bytes → get_or (whole_bits bytes) place d ≡ (get_or bytes q 0 / 2 ^ r % 2 == 1)
bit_of_bytes [] q r place d e l h = absurd (omega arith)
bit_of_bytes (n ∷ bytes) zero r place d e l h =
    let at : place ≡ r = omega arith in
    get_or_append_left (number_bits 8 n) (whole_bits bytes) d place (omega (arith, number_bits_len 8 n))
    ∙ ap (λ k. get_or (number_bits 8 n) k d) at
    ∙ bit_of_number 8 r n d l
bit_of_bytes (n ∷ bytes) (suc q) r place d e l h =
    get_or-append_right (number_bits 8 n) (whole_bits bytes) 8 place d (number_bits_len 8 n) (omega arith)
    ∙ bit_of_bytes bytes q r (place - 8) d (omega arith) l (omega arith)

pub held_bit : (bytes : List ℕ) (len place byte : ℕ) → place < len → length (take len (whole_bits bytes)) ≡ len → place / 8 < length bytes → byte ≡ get_or bytes (place / 8) byte → Some (nat_eq (bit_and (byte / 2 ^ (place % 8)) 1) 1) ≡ slice_get (take len (whole_bits bytes)) place
held_bit bytes len place byte l count h e =
    let at : byte ≡ get_or bytes (place / 8) 0 = e ∙ get_or_default bytes (place / 8) byte 0 h in
    let bit = bit_of_bytes bytes (place / 8) (place % 8) place false (omega arith) (omega arith) h in
    sym (slice_get-get_or (take len (whole_bits bytes)) place false (omega arith)
    ∙ ap (λ (b : Bool). Some b) (get_or-take len (whole_bits bytes) place false l ∙ bit ∙ ap (λ m. m / 2 ^ (place % 8) % 2 == 1) (sym at) ∙ ap (λ m. m == 1) (sym (and_numeral (byte / 2 ^ (place % 8)) 0 refl))))

-- ---- the bits that were read

take-number_bits : (k places n : ℕ) → k ≤ places → take k (number_bits places n) ≡ number_bits k n
take-number_bits zero places n l = refl
take-number_bits (suc k) zero n l = absurd (omega arith)
take-number_bits (suc k) (suc places) n l = ap (λ (t : List Bool). (n % 2 == 1) ∷ t) (take-number_bits k places (n / 2) (omega arith))

low_bits : (k n : ℕ) → number_bits k (n + 2 ^ k) ≡ number_bits k n
low_bits zero n = refl
low_bits (suc k) n =
    let p = pow-step k in
    let parity : (n + 2 ^ suc k) % 2 ≡ n % 2 = omega arith in
    let half : (n + 2 ^ suc k) / 2 ≡ n / 2 + 2 ^ k = omega arith in
    ap (λ m. (m == 1) ∷ number_bits k ((n + 2 ^ suc k) / 2)) parity
    ∙ ap (λ m. (n % 2 == 1) ∷ number_bits k m) half
    ∙ ap (λ (t : List Bool). (n % 2 == 1) ∷ t) (low_bits k (n / 2))

packed_split : (front : List ℕ) (bits : List Bool) → IsBytes front → bits_bytes (whole_bits front ++ bits) ≡ front ++ bits_bytes bits
packed_split [] bits fits = refl
packed_split (n ∷ front) bits fits =
    ap bits_bytes (append_assoc (number_bits 8 n) (whole_bits front) bits)
    ∙ bits_bytes_step (number_bits 8 n) (whole_bits front ++ bits) (number_bits_len 8 n)
    ∙ ap (λ m. m ∷ bits_bytes (whole_bits front ++ bits)) (bits_of_number 8 n (fits 0))
    ∙ ap (λ t. n ∷ t) (packed_split front bits (λ i. fits (suc i)))

-- no bit below the delimiter of the last byte
pub held_whole : (front : List ℕ) (len : ℕ) → len ≡ 8 * length front → take len (whole_bits front) ≡ whole_bits front
held_whole front len e = take_all len (whole_bits front) (omega (arith, length-whole_bits front))

pub packed_whole : (front : List ℕ) → IsBytes front → bits_bytes (whole_bits front) ≡ front
packed_whole front fits = ap bits_bytes (sym (append-nil (whole_bits front))) ∙ packed_split front [] fits ∙ ap (λ (t : List ℕ). front ++ t) bits_bytes_nil ∙ append-nil front

-- some bits below it
pub held_part : (front : List ℕ) (len k last rest : ℕ) → len ≡ 8 * length front + k → k ≤ 8 → last ≡ rest + 2 ^ k → take len (whole_bits (front ++ rest ∷ [])) ≡ whole_bits front ++ number_bits k last
held_part front len k last rest e l h =
    let bits = number_bits 8 rest in
    let n : len ≡ length (whole_bits front) + k = omega (arith, length-whole_bits front) in
    ap (λ (t : List Bool). take len t) (flat_map-append (number_bits 8) front (rest ∷ []))
    ∙ ap (λ m. take m (whole_bits front ++ (bits ++ []))) n
    ∙ take-append-add (whole_bits front) (bits ++ []) k
    ∙ ap (λ (t : List Bool). whole_bits front ++ take k t) (append-nil bits)
    ∙ ap (λ (t : List Bool). whole_bits front ++ t) (take-number_bits k 8 rest l ∙ sym (low_bits k rest) ∙ ap (number_bits k) (sym h))

pub packed_part : (front : List ℕ) (k last rest : ℕ) → IsBytes front → 0 < k → k ≤ 8 → last ≡ rest + 2 ^ k → rest < 2 ^ k → bits_bytes (whole_bits front ++ number_bits k last) ≡ front ++ rest ∷ []
packed_part front k last rest fits some l h low =
    packed_split front (number_bits k last) fits
    ∙ ap (λ (t : List ℕ). front ++ t) (bits_bytes_one (number_bits k last) (omega (arith, number_bits_len k last)) (omega (arith, number_bits_len k last))
    ∙ ap (λ m. m ∷ []) (ap (λ m. bits_number (number_bits k m)) h ∙ ap bits_number (low_bits k rest) ∙ bits_of_number k rest low))

pub length_part : (front : List ℕ) (k last len : ℕ) → len ≡ 8 * length front + k → length (whole_bits front ++ number_bits k last) ≡ len
length_part front k last len e = omega (arith, length-append (whole_bits front) (number_bits k last), length-whole_bits front, number_bits_len k last)

-- ---- the delimiter behind the bits

bits_number-push : (bits : List Bool) → bits_number (bits ++ true ∷ []) ≡ bits_number bits + 2 ^ length bits
bits_number-push [] = refl
bits_number-push (b ∷ bits) = omega (arith, bits_number-push bits, pow-step (length bits))

writing_whole_at : (count : ℕ) (bits : List Bool) → length bits ≡ 8 * count → bit_list_bytes bits ≡ bits_bytes bits ++ 1 ∷ []
writing_whole_at zero [] e = writing_one [] (omega arith) ∙ ap (λ (t : List ℕ). t ++ 1 ∷ []) (sym bits_bytes_nil)
writing_whole_at zero (b ∷ bits) e = absurd (omega arith)
writing_whole_at (suc count) bits e =
    let first = take 8 bits in
    let more = drop 8 bits in
    let l : length first ≡ 8 = length-take-le 8 bits (omega arith) in
    let split : first ++ more ≡ bits = take-append-drop 8 bits in
    let ih : bit_list_bytes more ≡ bits_bytes more ++ 1 ∷ [] = writing_whole_at count more (omega (arith, length-drop 8 bits)) in
    ap bit_list_bytes (sym split)
    ∙ writing_step first more l
    ∙ ap (λ (t : List ℕ). bits_number first ∷ t) ih
    ∙ ap (λ (t : List ℕ). t ++ 1 ∷ []) (sym (bits_bytes_step first more l) ∙ ap bits_bytes split)

pub writing_whole : (bits : List Bool) (bytes : List ℕ) → bits_bytes bits ≡ bytes → length bits % 8 ≡ 0 → bit_list_bytes bits ≡ bytes ++ 1 ∷ []
writing_whole bits bytes h e = writing_whole_at (length bits / 8) bits (omega arith) ∙ ap (λ (t : List ℕ). t ++ 1 ∷ []) h

alone : (x last : ℕ) (front : List ℕ) → x ∷ [] ≡ front ++ last ∷ [] → (front ≡ []) × (x ≡ last)
alone x last [] h = (refl, cc)
alone x last (n ∷ front) h = absurd (omega (arith, ap length h, length-append front (last ∷ [])))

abbrev pub EndsIn : List Bool → List ℕ → ℕ → ℕ → Type 0
EndsIn bits front last k = (last < 2 ^ k) × (bit_list_bytes bits ≡ front ++ (last + 2 ^ k) ∷ [])

last_byte : (k : ℕ) (bits : List Bool) (front : List ℕ) (last : ℕ) → length bits ≡ k → k < 8 → (front ≡ []) × (bits_number bits ≡ last) → EndsIn bits front last k
last_byte k bits front last e l h =
    let low : bits_number bits < 2 ^ k = subst (λ n. bits_number bits < 2 ^ n) e (bits_below bits) in
    let P : ℕ → Type 0 = λ m. m < 2 ^ k in (
      subst P h.1 low,
      writing_one bits (omega arith)
          ∙ ap (λ m. m ∷ []) (bits_number-push bits ∙ ap (λ n. bits_number bits + 2 ^ n) e ∙ ap (λ m. m + 2 ^ k) h.1)
          ∙ ap (λ (t : List ℕ). t ++ (last + 2 ^ k) ∷ []) (sym h.0),
    )

first_byte : (x last : ℕ) (bytes front : List ℕ) → 0 < length bytes → x ∷ bytes ≡ front ++ last ∷ [] → (more : List ℕ) × (front ≡ x ∷ more) × (bytes ≡ more ++ last ∷ [])
first_byte x last bytes [] some h = absurd (omega (arith, ap length h))
first_byte x last bytes (n ∷ front) some h = (front, ap (λ m. m ∷ front) (let e : n ≡ x = cc in e), cc)

writing_part_at : (count k : ℕ) (bits : List Bool) (front : List ℕ) (last : ℕ) → length bits ≡ 8 * count + k → 0 < k → k < 8 → bits_bytes bits ≡ front ++ last ∷ [] → EndsIn bits front last k
writing_part_at zero k bits front last e some l h =
    last_byte k bits front last (omega arith) l (alone (bits_number bits) last front (sym (bits_bytes_one bits (omega arith) (omega arith)) ∙ h))
writing_part_at (suc count) k bits front last e some l h =
    let first = take 8 bits in
    let more = drop 8 bits in
    let n : length first ≡ 8 = length-take-le 8 bits (omega arith) in
    let split : first ++ more ≡ bits = take-append-drop 8 bits in
    let rest : length more ≡ 8 * count + k = omega (arith, length-drop 8 bits) in
    let w = first_byte (bits_number first) last (bits_bytes more) front (omega (arith, bits_bytes_len more)) (sym (bits_bytes_step first more n) ∙ ap bits_bytes split ∙ h) in
    let ih = writing_part_at count k more w.0 last rest some l w.2 in (
      ih.0,
      ap bit_list_bytes (sym split)
          ∙ writing_step first more n
          ∙ ap (λ (t : List ℕ). bits_number first ∷ t) ih.1
          ∙ ap (λ (t : List ℕ). t ++ (last + 2 ^ k) ∷ []) (sym w.1),
    )

-- the bytes end in this one, and so many of its bits are in use
pub writing_part : (bits : List Bool) (bytes front : List ℕ) (last k : ℕ) → bits_bytes bits ≡ bytes → bytes ≡ front ++ last ∷ [] → k ≡ length bits % 8 → 0 < k → EndsIn bits front last k
writing_part bits bytes front last k packed split e some =
    writing_part_at (length bits / 8) k bits front last (omega arith) some (omega arith) (packed ∙ split)

-- ---- the value that a reader makes

pub is_held : (b : Inside) (bits : List Bool) → held_bits b ≡ bits → bits_bytes bits ≡ b.bytes.items → length bits ≡ b.len → IsHeld b
is_held b bits e packed count = record { count = ap length e ∙ count; packed = ap bits_bytes e ∙ packed }

module _ (b : Inside) (front : List ℕ) (place last : ℕ) (len : b.len ≡ 8 * length front + place) (fits : IsBytes front) where
  abbrev read_bits : List Bool
  read_bits = whole_bits front ++ number_bits place last

  module _ (items : b.bytes.items ≡ front) (none : place ≡ 0) where
    no_part : read_bits ≡ whole_bits front
    no_part = ap (λ k. whole_bits front ++ number_bits k last) none ∙ append-nil (whole_bits front)

    pub whole_view : held_bits b ≡ read_bits
    whole_view = ap (λ t. take b.len (whole_bits t)) items ∙ held_whole front b.len (omega arith) ∙ sym no_part

    pub whole_held : IsHeld b
    whole_held = is_held b read_bits whole_view (ap bits_bytes no_part ∙ packed_whole front fits ∙ sym items) (length_part front place last b.len len)

  module _ (rest : ℕ) (items : b.bytes.items ≡ front ++ rest ∷ []) (some : 0 < place) (in_byte : place < 8) (delimited : last ≡ rest + 2 ^ place) (high : last < 2 * 2 ^ place) where
    pub part_view : held_bits b ≡ read_bits
    part_view = ap (λ t. take b.len (whole_bits t)) items ∙ held_part front b.len place last rest len (omega arith) delimited

    pub part_held : IsHeld b
    part_held = is_held b read_bits part_view (packed_part front place last rest fits some (omega arith) delimited (omega arith) ∙ sym items) (length_part front place last b.len len)

pub without_top : (place last : ℕ) → place < 8 → 2 ^ place ≤ last → last ≡ last - 1 * 2 ^ place % 256 + 2 ^ place
without_top place last l low = omega (arith, (one_shifted place 255 refl l).0)

-- ---- what a writer and a root need

pub held_len : (b : Inside) → IsHeld b → length b.bytes.items ≡ (b.len + 7) / 8
held_len b h = sym (ap length h.packed) ∙ bits_bytes_len (held_bits b) ∙ ap (λ n. (n + 7) / 8) h.count

pub whole_writing : (b : Inside) → IsHeld b → b.len % 8 ≡ 0 → bit_list_bytes (held_bits b) ≡ b.bytes.items ++ 1 ∷ []
whole_writing b h e = writing_whole (held_bits b) b.bytes.items h.packed (omega (arith, h.count))

pub part_writing : (b : Inside) (front : List ℕ) (last : ℕ) → IsHeld b → b.bytes.items ≡ front ++ last ∷ [] → 0 < b.len % 8 → EndsIn (held_bits b) front last (b.len % 8)
part_writing b front last h e some =
    writing_part (held_bits b) b.bytes.items front last (b.len % 8) h.packed e (ap (λ n. n % 8) (sym h.count)) some

pub shifted_one : (place : ℕ) → place < 8 → 1 * 2 ^ place % 256 ≡ 2 ^ place
shifted_one place l = (one_shifted place 255 refl l).0

pub under_byte : (place last : ℕ) → place < 8 → last < 2 ^ place → last + 2 ^ place < 2 ^ 8
under_byte place last l low =
    let p = pow-step place in
    let q : 2 ^ suc place ≤ 2 ^ 8 = pow_mono {i = suc place} {j = 8} l in
    omega arith

-- ---- one more bit

number_bits-push : (k n : ℕ) → number_bits (suc k) n ≡ number_bits k n ++ (n / 2 ^ k % 2 == 1) ∷ []
number_bits-push zero n = ap (λ m. (m % 2 == 1) ∷ []) (let one : n ≡ n / 2 ^ 0 = omega arith in one)
number_bits-push (suc k) n =
    ap (λ (t : List Bool). (n % 2 == 1) ∷ t) (number_bits-push k (n / 2))
    ∙ ap (λ m. (n % 2 == 1) ∷ (number_bits k (n / 2) ++ (m % 2 == 1) ∷ [])) (div-div-eq-div-mul n 2 (2 ^ k) ∙ ap (λ m. n / m) (sym (pow-step k)))

-- a byte with so many bits in use behind whole ones
last_view : (b : Inside) (front : List ℕ) (k rest : ℕ) → b.len ≡ 8 * length front + k → k ≤ 8 → b.bytes.items ≡ front ++ rest ∷ [] → held_bits b ≡ whole_bits front ++ number_bits k rest
last_view b front k rest len l items =
    ap (λ t. take b.len (whole_bits t)) items ∙ held_part front b.len k (rest + 2 ^ k) rest len l refl ∙ ap (λ (t : List Bool). whole_bits front ++ t) (low_bits k rest)

last_held : (b : Inside) (front : List ℕ) (k rest : ℕ) → b.len ≡ 8 * length front + k → 0 < k → k ≤ 8 → IsBytes front → rest < 2 ^ k → b.bytes.items ≡ front ++ rest ∷ [] → IsHeld b
last_held b front k rest len some l fits low items =
    is_held b (whole_bits front ++ number_bits k (rest + 2 ^ k))
    (ap (λ t. take b.len (whole_bits t)) items ∙ held_part front b.len k (rest + 2 ^ k) rest len l refl)
    (packed_part front k (rest + 2 ^ k) rest fits some l refl low ∙ sym items)
    (length_part front k (rest + 2 ^ k) b.len len)

bit_of_one : (bit : Bool) → (cond bit 1 0 % 2 == 1) ≡ bit
bit_of_one true = refl
bit_of_one false = refl

one_low : (bit : Bool) → cond bit 1 0 < 2
one_low true = omega arith
one_low false = omega arith

pub held_fits : (b : Inside) → IsHeld b → IsBytes b.bytes.items
held_fits b h = subst IsBytes h.packed (packed_fits ((length (held_bits b) + 7) / 8) (held_bits b))

-- the first bit of a byte
module _ (b next : Inside) (bit : Bool) (h : IsHeld b) (even : b.len % 8 ≡ 0) (len : next.len ≡ b.len + 1) (items : next.bytes.items ≡ b.bytes.items ++ cond bit 1 0 ∷ []) where
  first_len : b.len ≡ 8 * length b.bytes.items
  first_len = omega (arith, held_len b h)

  pub first_pushed : held_bits next ≡ held_bits b ++ bit ∷ []
  first_pushed =
      last_view next b.bytes.items 1 (cond bit 1 0) (omega (arith, first_len)) (omega arith) items
      ∙ ap (λ (t : List Bool). whole_bits b.bytes.items ++ t) (ap (λ (t : Bool). t ∷ []) (bit_of_one bit))
      ∙ ap (λ (t : List Bool). t ++ bit ∷ []) (sym (held_whole b.bytes.items b.len first_len))

  pub first_held : IsHeld next
  first_held = last_held next b.bytes.items 1 (cond bit 1 0) (omega (arith, first_len)) (omega arith) (omega arith) (held_fits b h) (one_low bit) items

-- the bit is put above the others of its byte
put_low : (bit : Bool) (k l : ℕ) → l < 2 ^ k → (l + cond bit 1 0 * 2 ^ k < 2 ^ suc k) × (number_bits k (l + cond bit 1 0 * 2 ^ k) ≡ number_bits k l) × (((l + cond bit 1 0 * 2 ^ k) / 2 ^ k % 2 == 1) ≡ bit)
put_low true k l low =
    let one : l + 1 * 2 ^ k ≡ l + 2 ^ k = omega arith in
    let up : (l + 2 ^ k) / 2 ^ k ≡ 1 = add-div_right l (pow_pos k) ∙ ap (λ m. m + 1) (div-eq_of_lt low) in (
      omega (arith, pow-step k),
      ap (number_bits k) one ∙ low_bits k l,
      ap (λ m. m / 2 ^ k % 2 == 1) one ∙ ap (λ m. m % 2 == 1) up,
    )
put_low false k l low =
    let none : l + 0 * 2 ^ k ≡ l = omega arith in
    let under : l / 2 ^ k ≡ 0 = div-eq_of_lt low in (
      omega (arith, pow-step k),
      ap (number_bits k) none,
      ap (λ m. m / 2 ^ k % 2 == 1) none ∙ ap (λ m. m % 2 == 1) under,
    )

module _ (b next : Inside) (bit : Bool) (front : List ℕ) (l : ℕ) (h : IsHeld b) (fits : IsBytes front) (some : 0 < b.len % 8) (split : b.bytes.items ≡ front ++ l ∷ []) (len : next.len ≡ b.len + 1)
    (items : next.bytes.items ≡ front ++ (l + cond bit 1 0 * 2 ^ (b.len % 8)) ∷ []) where
  abbrev used : ℕ
  used = b.len % 8

  low : l < 2 ^ used
  low = (part_writing b front l h split some).0

  more_len : b.len ≡ 8 * length front + used
  more_len = omega (arith, held_len b h, ap length split, length-append front (l ∷ []))

  pub more_pushed : held_bits next ≡ held_bits b ++ bit ∷ []
  more_pushed =
      let put = put_low bit used l low in
      last_view next front (suc used) (l + cond bit 1 0 * 2 ^ used) (omega (arith, more_len)) (omega arith) items
      ∙ ap (λ (t : List Bool). whole_bits front ++ t) (number_bits-push used (l + cond bit 1 0 * 2 ^ used))
      ∙ ap (λ (t : List Bool). whole_bits front ++ (t ++ ((l + cond bit 1 0 * 2 ^ used) / 2 ^ used % 2 == 1) ∷ [])) put.1
      ∙ ap (λ (t : Bool). whole_bits front ++ (number_bits used l ++ t ∷ [])) put.2
      ∙ sym (append_assoc (whole_bits front) (number_bits used l) (bit ∷ []))
      ∙ ap (λ (t : List Bool). t ++ bit ∷ []) (sym (last_view b front used l more_len (omega arith) split))

  pub more_held : IsHeld next
  more_held = last_held next front (suc used) (l + cond bit 1 0 * 2 ^ used) (omega (arith, more_len)) (omega arith) (omega arith) fits (put_low bit used l low).0 items
