-- The roots of empty lists, by computing them.
use Rattle.std.proofs.Common.{◌≡◌, ℕ, List, [], ◌∷◌, length, map, refl, arith}
use Rattle.sha2.specs.Sha256.{sha256, digest_bytes, hash_after, compress, rounds, schedule, first_words}
use Rattle.hash_tree.specs.Merkle.{hash, merkle_root, merkleize, depth_of, depth_from, mix_in_length, length_chunk, uint_to_bytes}
use Rattle.beacon_types.specs.declared.body.TheConstants.{EMPTY_OF_SIXTEEN, EMPTY_OF_TWO}

of_sixteen : EMPTY_OF_SIXTEEN ≡ mix_in_length (merkleize [] 16) 0
unfolding hash merkle_root merkleize depth_of depth_from mix_in_length length_chunk uint_to_bytes sha256 digest_bytes hash_after compress rounds schedule first_words
of_sixteen = refl

of_two : EMPTY_OF_TWO ≡ mix_in_length (merkleize [] 2) 0
unfolding hash merkle_root merkleize depth_of depth_from mix_in_length length_chunk uint_to_bytes sha256 digest_bytes hash_after compress rounds schedule first_words
of_two = refl

-- the root of a list that has no item, of room for sixteen or two that are not basic
pub empty_of_sixteen : {A : Type 0} (root : A → List ℕ) (xs : List A) (n : ℕ) → n ≡ length xs → n ≡ 0
    → EMPTY_OF_SIXTEEN ≡ mix_in_length (merkleize (map root xs) 16) (length xs)
empty_of_sixteen root [] n same none = of_sixteen
empty_of_sixteen root (x ∷ xs) n same none = absurd (omega arith)

pub empty_of_two : {A : Type 0} (root : A → List ℕ) (xs : List A) (n : ℕ) → n ≡ length xs → n ≡ 0
    → EMPTY_OF_TWO ≡ mix_in_length (merkleize (map root xs) 2) (length xs)
empty_of_two root [] n same none = of_two
empty_of_two root (x ∷ xs) n same none = absurd (omega arith)
