-- The hash of a message of 64 bytes, two blocks of which the second is padding alone, and of a message that fills one block
-- with its padding.
use Rattle.std.proofs.Common.{◌≡◌, ℕ, ◌+◌, ◌/◌, List, ◌++◌, length, take, drop, refl, ap, ◌∙◌, length-append, append_assoc, arith}
use Rattle.std.proofs.lemmas.List.{take-append-le, drop-append-le, take_all, drop_all}
use Rattle.sha2.specs.Sha256.{sha256, digest_bytes, hash_after, compress, padding, initial_hash_256}
use Rattle.hash_tree.specs.inside.Lanes.{padding_block}

padding_length : length (padding 64) ≡ 64
padding_length = refl

first_block : (m : List ℕ) → length m ≡ 64 → take 64 (m ++ padding 64) ≡ m
first_block m long = rw (take-append-le 64 m (padding 64) (omega arith)) (take_all 64 m (omega arith))

second_block : (m : List ℕ) → length m ≡ 64 → take 64 (drop 64 (m ++ padding 64)) ≡ padding 64
second_block m long = rw (drop-append-le 64 m (padding 64) (omega arith), drop_all 64 m (omega arith)) (take_all 64 (padding 64) (omega (arith, padding_length)))

two_blocks : (h m : List ℕ) → length m ≡ 64 → hash_after h (m ++ padding 64) 2 ≡ compress (compress h m) (padding 64)
unfolding hash_after
two_blocks h m long = rw (first_block m long, second_block m long) refl

pub hash_of_64 : (m : List ℕ) → length m ≡ 64 → sha256 m ≡ digest_bytes (compress (compress initial_hash_256 m) padding_block) 8
unfolding sha256 padding_block
hash_of_64 m long =
    let blocks : length (m ++ padding 64) / 64 ≡ 2 = let whole : length (m ++ padding 64) ≡ 128 = omega (arith, length-append m (padding 64), padding_length) in omega arith in
    ap (λ (h : List ℕ). digest_bytes h 8) (rw (long, blocks) (two_blocks initial_hash_256 m long))

-- a message that fills one block with its padding
pub hash_of_block : (m : List ℕ) (n : ℕ) → length m ≡ n → length (m ++ padding n) ≡ 64
    → sha256 m ≡ digest_bytes (compress initial_hash_256 (m ++ padding n)) 8
unfolding sha256 hash_after
hash_of_block m n long whole =
    let blocks : length (m ++ padding n) / 64 ≡ 1 = omega arith in
    ap (λ (h : List ℕ). digest_bytes h 8) (rw (long, blocks) (ap (λ (b : List ℕ). compress initial_hash_256 b) (take_all 64 (m ++ padding n) (omega arith))))

-- a seed and bytes behind it, likewise
pub hash_of_seed : (seed bytes : List ℕ) → length seed ≡ 32 → length (bytes ++ padding (32 + length bytes)) ≡ 32
    → sha256 (seed ++ bytes) ≡ digest_bytes (compress initial_hash_256 (seed ++ (bytes ++ padding (32 + length bytes)))) 8
hash_of_seed seed bytes long whole =
    let n = 32 + length bytes in
    let tail = bytes ++ padding n in
    let block : (seed ++ bytes) ++ padding n ≡ seed ++ tail = append_assoc seed bytes (padding n) in
    let all : length (seed ++ tail) ≡ 64 = omega (arith, length-append seed tail, whole) in
    hash_of_block (seed ++ bytes) n (omega (arith, length-append seed bytes)) (ap (λ (b : List ℕ). length b) block ∙ all)
    ∙ ap (λ (b : List ℕ). digest_bytes (compress initial_hash_256 b) 8) block
