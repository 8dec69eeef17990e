-- chunks of bytes and of numbers, cut at a place
use Rattle.std.proofs.Common.{ℕ, zero, suc, ◌+◌, ◌-◌, ◌*◌, ◌/◌, ◌<◌, ◌≤◌, ◌≡◌, List, [], ◌∷◌, ◌++◌, length, get_or, take, drop, refl, sym, ap, ◌∙◌, arith}
use Rattle.std.specs.List.{flat_map}
use Rattle.std.proofs.lemmas.List.{length-take, length-drop, drop-drop, take-take, drop-take, take_at, drop_at}
use Rattle.std.proofs.Math.Seq.{take-add}
use Rattle.hash_tree.specs.Merkle.{padded_chunk, chunks_of, byte_chunks, uint_to_bytes, uints_to_bytes}

pub chunk_count : (count : ℕ) (bytes : List ℕ) → length (chunks_of count bytes) ≡ count
unfolding chunks_of
chunk_count zero bytes = refl
chunk_count (suc count) bytes = ap suc (chunk_count count (drop 32 bytes))

drop-chunks_of : (at count all : ℕ) (bytes : List ℕ) → all ≡ at + count → drop at (chunks_of all bytes) ≡ chunks_of count (drop (32 * at) bytes)
unfolding chunks_of
drop-chunks_of zero count all bytes e = ap (λ n. chunks_of n bytes) (omega arith)
drop-chunks_of (suc at) count zero bytes e = absurd (omega arith)
drop-chunks_of (suc at) count (suc all) bytes e =
    drop-chunks_of at count all (drop 32 bytes) (omega arith) ∙ ap (chunks_of count) (drop-drop (32 * at) 32 bytes ∙ ap (λ n. drop n bytes) (omega arith))

take-chunks_of : (at count all : ℕ) (bytes : List ℕ) → all ≡ at + count → take at (chunks_of all bytes) ≡ chunks_of at (take (32 * at) bytes)
unfolding chunks_of
take-chunks_of zero count all bytes e = refl
take-chunks_of (suc at) count zero bytes e = absurd (omega arith)
take-chunks_of (suc at) count (suc all) bytes e =
    let more : 32 * suc at ≡ 32 + 32 * at = omega arith in
    let first : take 32 (take (32 * suc at) bytes) ≡ take 32 bytes = take-take 32 (32 * suc at) bytes (omega arith) in
    let later : drop 32 (take (32 * suc at) bytes) ≡ take (32 * at) (drop 32 bytes) = ap (λ n. drop 32 (take n bytes)) more ∙ drop-take 32 (32 * at) bytes in
    let e3 : take at (chunks_of all (drop 32 bytes)) ≡ chunks_of at (take (32 * at) (drop 32 bytes)) = take-chunks_of at count all (drop 32 bytes) (omega arith) in
    cc

pub drop-byte_chunks : (at : ℕ) (bytes rest : List ℕ) → at * 32 ≤ length bytes → rest ≡ drop (at * 32) bytes → byte_chunks rest ≡ drop at (byte_chunks bytes)
drop-byte_chunks at bytes rest h e =
    let n : length rest + at * 32 ≡ length bytes = omega (arith, ap length e, length-drop (at * 32) bytes) in
    sym (drop-chunks_of at ((length rest + 31) / 32) ((length bytes + 31) / 32) bytes (omega arith) ∙ ap (λ t. chunks_of ((length rest + 31) / 32) t) (ap (λ k. drop k bytes) (omega arith) ∙ sym e))

pub take-byte_chunks : (at : ℕ) (bytes front : List ℕ) → at * 32 ≤ length bytes → front ≡ take (at * 32) bytes → byte_chunks front ≡ take at (byte_chunks bytes)
take-byte_chunks at bytes front h e =
    let n : length front ≡ at * 32 = omega (arith, ap length e, length-take (at * 32) bytes) in
    let k : (length front + 31) / 32 ≡ at = omega arith in
    sym (take-chunks_of at ((length bytes + 31) / 32 - at) ((length bytes + 31) / 32) bytes (omega arith) ∙ ap (λ j. chunks_of j (take (32 * at) bytes)) (sym k) ∙ ap (λ t. chunks_of ((length front + 31) / 32) t) (ap (λ j. take j bytes) (omega arith) ∙ sym e))

first-chunks_of : (count : ℕ) (bytes d : List ℕ) → 0 < count → get_or (chunks_of count bytes) 0 d ≡ padded_chunk (take 32 bytes)
unfolding chunks_of
first-chunks_of zero bytes d h = absurd (omega arith)
first-chunks_of (suc count) bytes d h = refl

pub first-byte_chunks : (bytes start d : List ℕ) → 0 < length bytes → start ≡ take 32 bytes → padded_chunk start ≡ get_or (byte_chunks bytes) 0 d
first-byte_chunks bytes start d h e = ap padded_chunk e ∙ sym (first-chunks_of ((length bytes + 31) / 32) bytes d (omega arith))

pub length-uints_to_bytes : (numbers : List ℕ) → length (uints_to_bytes numbers) ≡ 8 * length numbers
unfolding uints_to_bytes uint_to_bytes
length-uints_to_bytes [] = refl
length-uints_to_bytes (n ∷ numbers) = omega (arith, length-uints_to_bytes numbers)

drop_nil : (k : ℕ) → drop {A = ℕ} k [] ≡ []
drop_nil zero = refl
drop_nil (suc k) = refl

take_nil : (k : ℕ) → take {A = ℕ} k [] ≡ []
take_nil zero = refl
take_nil (suc k) = refl

length-uint_to_bytes : (n : ℕ) → length (uint_to_bytes n) ≡ 8
unfolding uint_to_bytes
length-uint_to_bytes n = refl

pub drop-uints_to_bytes : (at k : ℕ) (numbers : List ℕ) → k ≡ 8 * at → uints_to_bytes (drop at numbers) ≡ drop k (uints_to_bytes numbers)
unfolding uints_to_bytes
drop-uints_to_bytes zero k numbers e = ap (λ j. drop j (flat_map uint_to_bytes numbers)) (let z : 0 ≡ k = omega arith in z)
drop-uints_to_bytes (suc at) k [] e = sym (drop_nil k)
drop-uints_to_bytes (suc at) k (n ∷ numbers) e =
    let later = flat_map uint_to_bytes numbers in
    drop-uints_to_bytes at (8 * at) numbers refl
    ∙ ap (λ t. drop (8 * at) t) (sym (drop_at (uint_to_bytes n) later 8 (length-uint_to_bytes n)))
    ∙ drop-drop (8 * at) 8 (uint_to_bytes n ++ later)
    ∙ ap (λ j. drop j (uint_to_bytes n ++ later)) (omega arith)

pub take-uints_to_bytes : (at k : ℕ) (numbers : List ℕ) → k ≡ 8 * at → uints_to_bytes (take at numbers) ≡ take k (uints_to_bytes numbers)
unfolding uints_to_bytes
take-uints_to_bytes zero k numbers e = ap (λ j. take j (flat_map uint_to_bytes numbers)) (let z : 0 ≡ k = omega arith in z)
take-uints_to_bytes (suc at) k [] e = sym (take_nil k)
take-uints_to_bytes (suc at) k (n ∷ numbers) e =
    let later = flat_map uint_to_bytes numbers in
    let more : take (8 + 8 * at) (uint_to_bytes n ++ later) ≡ take 8 (uint_to_bytes n ++ later) ++ take (8 * at) (drop 8 (uint_to_bytes n ++ later)) = take-add 8 (8 * at) (uint_to_bytes n ++ later) in
    let front = take_at (uint_to_bytes n) later 8 (length-uint_to_bytes n) in
    let back = drop_at (uint_to_bytes n) later 8 (length-uint_to_bytes n) in
    let all : take k (uint_to_bytes n ++ later) ≡ uint_to_bytes n ++ take (8 * at) later =
    ap (λ j. take j (uint_to_bytes n ++ later)) (omega arith) ∙ more ∙ ap (λ t. t ++ take (8 * at) (drop 8 (uint_to_bytes n ++ later))) front ∙ ap (λ t. uint_to_bytes n ++ take (8 * at) t) back in
    ap (λ t. uint_to_bytes n ++ t) (take-uints_to_bytes at (8 * at) numbers refl) ∙ sym all

pub first_numbers : (numbers : List ℕ) → 0 < length numbers → uint_to_bytes (get_or numbers 0 0) ++ (uint_to_bytes (get_or numbers 1 0) ++ (uint_to_bytes (get_or numbers 2 0) ++ uint_to_bytes (get_or numbers 3 0))) ≡ padded_chunk (take 32 (uints_to_bytes numbers))
unfolding uints_to_bytes uint_to_bytes padded_chunk
first_numbers [] h = absurd (omega arith)
first_numbers (a ∷ []) h = refl
first_numbers (a ∷ b ∷ []) h = refl
first_numbers (a ∷ b ∷ c ∷ []) h = refl
first_numbers (a ∷ b ∷ c ∷ d ∷ numbers) h = refl

pub ruleset number_chunk_facts = (chunk_count, length-uints_to_bytes)
