-- Numbers in chunks of four: what is read from them, put into them, and their roots.
use Rattle.std.proofs.Common.{◌≡◌, ℕ, zero, suc, ◌+◌, ◌*◌, ◌/◌, ◌%◌, ◌<◌, ◌≤◌, ◌^◌, List, [], ◌∷◌, ◌++◌, length, map, drop, get_or, refl, sym, ap, ap₂, ◌∙◌, arith, length-drop}
use Rattle.std.specs.Prelude.{slice_get, slice_set, Option, Some, None}
use Rattle.std.specs.List.{AllByRecursion}
use Rattle.std.proofs.lemmas.List.{append-nil, drop-drop, drop_all, append_assoc}
use Rattle.hash_tree.specs.Merkle.{merkle_root, u64_chunks, uint_to_bytes, uints_to_bytes, chunks_of, padded_chunk}
use Rattle.hash_tree.proofs.Chunks.{length-uints_to_bytes}
use Rattle.shared_tree.specs.declared.four.Four.{Four}
use Rattle.shared_tree.specs.inside.Fours.{four, first_four, packed, numbers_in}
use Rattle.tree_nodes.specs.inside.Puts.{put_at}

pub packed_first : (xs : List ℕ) → 0 < length xs → packed xs ≡ first_four xs ∷ packed (drop 4 xs)
unfolding packed
packed_first [] h = absurd (omega arith)
packed_first (a ∷ []) h = refl
packed_first (a ∷ b ∷ []) h = refl
packed_first (a ∷ b ∷ c ∷ []) h = refl
packed_first (a ∷ b ∷ c ∷ d ∷ xs) h = refl

pub length_packed : (xs : List ℕ) → length (packed xs) ≡ (length xs + 3) / 4
unfolding packed
length_packed [] = refl
length_packed (a ∷ []) = refl
length_packed (a ∷ b ∷ []) = refl
length_packed (a ∷ b ∷ c ∷ []) = refl
length_packed (a ∷ b ∷ c ∷ d ∷ xs) = omega (arith, length_packed xs)

-- the numbers of the chunks are those that were packed
pub unpack : (xs : List ℕ) → numbers_in (length xs) (packed xs) ≡ xs
unfolding packed numbers_in
unpack [] = refl
unpack (a ∷ []) = refl
unpack (a ∷ b ∷ []) = refl
unpack (a ∷ b ∷ c ∷ []) = refl
unpack (a ∷ b ∷ c ∷ d ∷ xs) = ap (λ (r : List ℕ). a ∷ b ∷ c ∷ d ∷ r) (unpack xs)

pub unpacked : (len : ℕ) (xs : List ℕ) (fours : List Four) → len ≡ length xs → fours ≡ packed xs → numbers_in len fours ≡ xs
unpacked len xs fours long is = ap₂ (λ (n : ℕ) (fs : List Four). numbers_in n fs) long is ∙ unpack xs

four_more : (n : ℕ) → suc (suc (suc (suc n))) / 4 ≡ suc (n / 4)
four_more n = omega arith

four_over : (n : ℕ) → suc (suc (suc (suc n))) % 4 ≡ n % 4
four_over n = omega arith

some_four : (f g : Four) → ◌≡◌ {A = Option Four} (Some f) (Some g) → f ≡ g
some_four f g e = ap (λ (o : Option Four). elim o as (λ _. Four) [ Some x ↦ x | None ↦ f ]) e

-- the number at a place stands in its chunk
pub packed_get : (xs : List ℕ) (at : ℕ) (f : Four) → at < length xs → slice_get (packed xs) (at / 4) ≡ Some f → slice_get f.numbers (at % 4) ≡ slice_get xs at
unfolding packed
packed_get [] at f h is = absurd (omega arith)
packed_get (a ∷ []) zero f h is = ap (λ (o : Four). slice_get o.numbers 0) (sym (some_four (four a 0 0 0) f is))
packed_get (a ∷ []) (suc at) f h is = absurd (omega arith)
packed_get (a ∷ b ∷ []) zero f h is = ap (λ (o : Four). slice_get o.numbers 0) (sym (some_four (four a b 0 0) f is))
packed_get (a ∷ b ∷ []) (suc zero) f h is = ap (λ (o : Four). slice_get o.numbers 1) (sym (some_four (four a b 0 0) f is))
packed_get (a ∷ b ∷ []) (suc (suc at)) f h is = absurd (omega arith)
packed_get (a ∷ b ∷ c ∷ []) zero f h is = ap (λ (o : Four). slice_get o.numbers 0) (sym (some_four (four a b c 0) f is))
packed_get (a ∷ b ∷ c ∷ []) (suc zero) f h is = ap (λ (o : Four). slice_get o.numbers 1) (sym (some_four (four a b c 0) f is))
packed_get (a ∷ b ∷ c ∷ []) (suc (suc zero)) f h is = ap (λ (o : Four). slice_get o.numbers 2) (sym (some_four (four a b c 0) f is))
packed_get (a ∷ b ∷ c ∷ []) (suc (suc (suc at))) f h is = absurd (omega arith)
packed_get (a ∷ b ∷ c ∷ d ∷ xs) zero f h is = ap (λ (o : Four). slice_get o.numbers 0) (sym (some_four (four a b c d) f is))
packed_get (a ∷ b ∷ c ∷ d ∷ xs) (suc zero) f h is = ap (λ (o : Four). slice_get o.numbers 1) (sym (some_four (four a b c d) f is))
packed_get (a ∷ b ∷ c ∷ d ∷ xs) (suc (suc zero)) f h is = ap (λ (o : Four). slice_get o.numbers 2) (sym (some_four (four a b c d) f is))
packed_get (a ∷ b ∷ c ∷ d ∷ xs) (suc (suc (suc zero))) f h is = ap (λ (o : Four). slice_get o.numbers 3) (sym (some_four (four a b c d) f is))
packed_get (a ∷ b ∷ c ∷ d ∷ xs) (suc (suc (suc (suc at)))) f h is =
    ap (λ (k : ℕ). slice_get f.numbers k) (four_over at)
    ∙ packed_get xs at f (omega arith) (sym (ap (λ (k : ℕ). slice_get (four a b c d ∷ packed xs) k) (four_more at)) ∙ is)

-- a chunk with another number
abbrev with : Four → ℕ → ℕ → Four
with f k n = record { numbers = slice_set f.numbers k n }

-- a number that is put among those of a chunk changes that chunk
pub put_among : (xs : List ℕ) (at n : ℕ) (f g : Four) → at ≤ length xs → at / 4 < length (packed xs) → slice_get (packed xs) (at / 4) ≡ Some f → g.numbers ≡ slice_set f.numbers (at % 4) n → put_at (packed xs) (at / 4) g ≡ packed (put_at xs at n)
unfolding packed put_at
put_among [] at n f g h room is e = absurd (omega arith)
put_among (a ∷ []) zero n f g h room is e = ap (λ (ns : List ℕ). record { numbers = ns } ∷ []) (e ∙ ap (λ (o : Four). slice_set o.numbers 0 n) (sym (some_four (four a 0 0 0) f is)))
put_among (a ∷ []) (suc zero) n f g h room is e = ap (λ (ns : List ℕ). record { numbers = ns } ∷ []) (e ∙ ap (λ (o : Four). slice_set o.numbers 1 n) (sym (some_four (four a 0 0 0) f is)))
put_among (a ∷ []) (suc (suc at)) n f g h room is e = absurd (omega arith)
put_among (a ∷ b ∷ []) zero n f g h room is e = ap (λ (ns : List ℕ). record { numbers = ns } ∷ []) (e ∙ ap (λ (o : Four). slice_set o.numbers 0 n) (sym (some_four (four a b 0 0) f is)))
put_among (a ∷ b ∷ []) (suc zero) n f g h room is e = ap (λ (ns : List ℕ). record { numbers = ns } ∷ []) (e ∙ ap (λ (o : Four). slice_set o.numbers 1 n) (sym (some_four (four a b 0 0) f is)))
put_among (a ∷ b ∷ []) (suc (suc zero)) n f g h room is e = ap (λ (ns : List ℕ). record { numbers = ns } ∷ []) (e ∙ ap (λ (o : Four). slice_set o.numbers 2 n) (sym (some_four (four a b 0 0) f is)))
put_among (a ∷ b ∷ []) (suc (suc (suc at))) n f g h room is e = absurd (omega arith)
put_among (a ∷ b ∷ c ∷ []) zero n f g h room is e = ap (λ (ns : List ℕ). record { numbers = ns } ∷ []) (e ∙ ap (λ (o : Four). slice_set o.numbers 0 n) (sym (some_four (four a b c 0) f is)))
put_among (a ∷ b ∷ c ∷ []) (suc zero) n f g h room is e = ap (λ (ns : List ℕ). record { numbers = ns } ∷ []) (e ∙ ap (λ (o : Four). slice_set o.numbers 1 n) (sym (some_four (four a b c 0) f is)))
put_among (a ∷ b ∷ c ∷ []) (suc (suc zero)) n f g h room is e = ap (λ (ns : List ℕ). record { numbers = ns } ∷ []) (e ∙ ap (λ (o : Four). slice_set o.numbers 2 n) (sym (some_four (four a b c 0) f is)))
put_among (a ∷ b ∷ c ∷ []) (suc (suc (suc zero))) n f g h room is e = ap (λ (ns : List ℕ). record { numbers = ns } ∷ []) (e ∙ ap (λ (o : Four). slice_set o.numbers 3 n) (sym (some_four (four a b c 0) f is)))
put_among (a ∷ b ∷ c ∷ []) (suc (suc (suc (suc at)))) n f g h room is e = absurd (omega arith)
put_among (a ∷ b ∷ c ∷ d ∷ xs) zero n f g h room is e = ap (λ (ns : List ℕ). record { numbers = ns } ∷ packed xs) (e ∙ ap (λ (o : Four). slice_set o.numbers 0 n) (sym (some_four (four a b c d) f is)))
put_among (a ∷ b ∷ c ∷ d ∷ xs) (suc zero) n f g h room is e = ap (λ (ns : List ℕ). record { numbers = ns } ∷ packed xs) (e ∙ ap (λ (o : Four). slice_set o.numbers 1 n) (sym (some_four (four a b c d) f is)))
put_among (a ∷ b ∷ c ∷ d ∷ xs) (suc (suc zero)) n f g h room is e = ap (λ (ns : List ℕ). record { numbers = ns } ∷ packed xs) (e ∙ ap (λ (o : Four). slice_set o.numbers 2 n) (sym (some_four (four a b c d) f is)))
put_among (a ∷ b ∷ c ∷ d ∷ xs) (suc (suc (suc zero))) n f g h room is e = ap (λ (ns : List ℕ). record { numbers = ns } ∷ packed xs) (e ∙ ap (λ (o : Four). slice_set o.numbers 3 n) (sym (some_four (four a b c d) f is)))
put_among (a ∷ b ∷ c ∷ d ∷ xs) (suc (suc (suc (suc at)))) n f g h room is e =
    ap (λ (k : ℕ). put_at (four a b c d ∷ packed xs) k g) (four_more at)
    ∙ ap (λ (r : List Four). four a b c d ∷ r) (put_among xs at n f g (omega arith) (omega (arith, four_more at)) (sym (ap (λ (k : ℕ). slice_get (four a b c d ∷ packed xs) k) (four_more at)) ∙ is) (e ∙ ap (λ (k : ℕ). slice_set f.numbers k n) (four_over at)))

-- a number behind full chunks begins a chunk
pub put_behind : (xs : List ℕ) (at n : ℕ) → at ≤ length xs → length (packed xs) ≤ at / 4 → put_at (packed xs) (at / 4) (first_four (n ∷ [])) ≡ packed (put_at xs at n)
unfolding packed put_at
put_behind [] at n h full = refl
put_behind (a ∷ []) at n h full = absurd (omega arith)
put_behind (a ∷ b ∷ []) at n h full = absurd (omega arith)
put_behind (a ∷ b ∷ c ∷ []) at n h full = absurd (omega arith)
put_behind (a ∷ b ∷ c ∷ d ∷ xs) zero n h full = absurd (omega arith)
put_behind (a ∷ b ∷ c ∷ d ∷ xs) (suc zero) n h full = absurd (omega arith)
put_behind (a ∷ b ∷ c ∷ d ∷ xs) (suc (suc zero)) n h full = absurd (omega arith)
put_behind (a ∷ b ∷ c ∷ d ∷ xs) (suc (suc (suc zero))) n h full = absurd (omega arith)
put_behind (a ∷ b ∷ c ∷ d ∷ xs) (suc (suc (suc (suc at)))) n h full =
    ap (λ (k : ℕ). put_at (four a b c d ∷ packed xs) k (four n 0 0 0)) (four_more at)
    ∙ ap (λ (r : List Four). four a b c d ∷ r) (put_behind xs at n (omega arith) (omega (arith, four_more at)))

-- the root of a chunk is its bytes
abbrev four_root : Four → List ℕ
four_root f = merkle_root 0 (u64_chunks f.numbers)

chunks_after : (m n : ℕ) → m ≡ 32 + n → (m + 31) / 32 ≡ suc ((n + 31) / 32)
chunks_after m n e = omega arith

-- and those of the chunks are the leaves of the numbers' tree
pub packed_roots : (xs : List ℕ) → map (λ f. merkle_root 0 (u64_chunks f.numbers)) (packed xs) ≡ u64_chunks xs
unfolding packed merkle_root uints_to_bytes uint_to_bytes chunks_of padded_chunk
packed_roots [] = refl
packed_roots (a ∷ []) = refl
packed_roots (a ∷ b ∷ []) = refl
packed_roots (a ∷ b ∷ c ∷ []) = refl
packed_roots (a ∷ b ∷ c ∷ d ∷ xs) =
    let long : length (uints_to_bytes (a ∷ b ∷ c ∷ d ∷ xs)) ≡ 32 + length (uints_to_bytes xs) = omega (arith, length-uints_to_bytes (a ∷ b ∷ c ∷ d ∷ xs), length-uints_to_bytes xs) in
    ap (λ (r : List (List ℕ)). merkle_root 0 (u64_chunks (a ∷ b ∷ c ∷ d ∷ [])) ∷ r) (packed_roots xs)
    ∙ sym (ap (λ (k : ℕ). chunks_of k (uints_to_bytes (a ∷ b ∷ c ∷ d ∷ xs))) (chunks_after (length (uints_to_bytes (a ∷ b ∷ c ∷ d ∷ xs))) (length (uints_to_bytes xs)) long))

pub packed_more : (xs : List ℕ) (k : ℕ) (front : List Four) → 4 * k < length xs → front ++ packed (drop (4 * k) xs) ≡ packed xs → (front ++ first_four (drop (4 * k) xs) ∷ []) ++ packed (drop (4 * (k + 1)) xs) ≡ packed xs
packed_more xs k front more so_far =
    let some : 0 < length (drop (4 * k) xs) = omega (arith, length-drop (4 * k) xs) in
    append_assoc front (first_four (drop (4 * k) xs) ∷ []) (packed (drop (4 * (k + 1)) xs))
    ∙ (ap (λ (n : ℕ). front ++ first_four (drop (4 * k) xs) ∷ packed (drop n xs)) (omega arith)
    ∙ (ap (λ (r : List ℕ). front ++ first_four (drop (4 * k) xs) ∷ packed r) (sym (drop-drop 4 (4 * k) xs))
    ∙ (ap (λ (r : List Four). front ++ r) (sym (packed_first (drop (4 * k) xs) some)) ∙ so_far)))

pub packed_all : (xs : List ℕ) (k : ℕ) (front : List Four) → length xs ≤ 4 * k → front ++ packed (drop (4 * k) xs) ≡ packed xs → front ≡ packed xs
unfolding packed
packed_all xs k front all so_far = sym (append-nil front) ∙ (ap (λ (r : List ℕ). front ++ packed r) (sym (drop_all (4 * k) xs all)) ∙ so_far)

pub chunk_within : (xs : List ℕ) (fours : List Four) (at : ℕ) → fours ≡ packed xs → at < length xs → at / 4 < length fours
chunk_within xs fours at is within = omega (arith, ap length is, length_packed xs)

pub chunk_behind : (xs : List ℕ) (fours : List Four) (at : ℕ) → fours ≡ packed xs → at ≤ length xs → at / 4 ≤ length fours
chunk_behind xs fours at is within = omega (arith, ap length is, length_packed xs)

-- numbers below 2 ^ 64
pub all_below : (xs : List ℕ) → ((k : ℕ) → get_or xs k 0 < 2 ^ 64) → AllByRecursion (λ n. n < 2 ^ 64) xs
all_below [] h = tt
all_below (x ∷ xs) h = (h zero, all_below xs (λ k. h (suc k)))

pub put_below : (xs : List ℕ) (at n : ℕ) → AllByRecursion (λ m. m < 2 ^ 64) xs → n < 2 ^ 64 → AllByRecursion (λ m. m < 2 ^ 64) (put_at xs at n)
unfolding put_at
put_below [] at n all below = (below, tt)
put_below (x ∷ xs) zero n all below = (below, all.1)
put_below (x ∷ xs) (suc at) n all below = (all.0, put_below xs at n all.1 below)
