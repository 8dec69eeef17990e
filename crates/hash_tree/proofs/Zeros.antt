-- the table of zero roots: each row is the hash of the row before it beside itself
use Rattle.std.proofs.Common.{ℕ, zero, suc, ◌+◌, ◌<◌, ◌≡◌, List, [], ◌∷◌, ◌++◌, length, get_or, take, drop, refl, sym, ap, ◌∙◌, arith}
use Rattle.sha2.specs.Sha256.{sha256, digest_bytes, hash_after, compress, rounds, schedule, first_words}
use Rattle.hash_tree.specs.Merkle.{hash, merkle_root}
use Rattle.hash_tree.specs.declared.zero.TheConstants.{ZERO_HASHES}

abbrev pub IsChain : List ℕ → List (List ℕ) → Type 0
IsChain row [] = Unit {0}
IsChain row (next ∷ rows) = (sha256 (row ++ row) ≡ next) × IsChain next rows

take_nil : {X : Type 0} (n : ℕ) → take {A = X} n [] ≡ []
take_nil zero = refl
take_nil (suc n) = refl

drop_nil : {X : Type 0} (n : ℕ) → drop {A = X} n [] ≡ []
drop_nil zero = refl
drop_nil (suc n) = refl

pub merkle_root-suc_nil : (depth : ℕ) → merkle_root (suc depth) [] ≡ hash (merkle_root depth [] ++ merkle_root depth [])
unfolding merkle_root
merkle_root-suc_nil depth = simp (take_nil, drop_nil)

next_is : (row next : List ℕ) (depth : ℕ) → row ≡ merkle_root depth [] → sha256 (row ++ row) ≡ next → next ≡ merkle_root (suc depth) []
unfolding hash
next_is row next depth e h = sym h ∙ ap (λ r. sha256 (r ++ r)) e ∙ sym (merkle_root-suc_nil depth)

chained : (row : List ℕ) (rows : List (List ℕ)) (depth k : ℕ) (d : List ℕ) → row ≡ merkle_root depth [] → IsChain row rows → k < suc (length rows) → get_or (row ∷ rows) k d ≡ merkle_root (depth + k) []
chained row rows depth zero d e h l = e ∙ ap (λ n. merkle_root n []) (omega arith)
chained row [] depth (suc k) d e h l = absurd (omega arith)
chained row (next ∷ rows) depth (suc k) d e h l =
    chained next rows (suc depth) k d (next_is row next depth e h.0) h.1 (omega arith) ∙ ap (λ n. merkle_root n []) (omega arith)

row_zero : get_or ZERO_HASHES 0 [] ≡ merkle_root 0 []
unfolding merkle_root
row_zero = refl

rows_chained : IsChain (get_or ZERO_HASHES 0 []) (drop 1 ZERO_HASHES)
unfolding sha256 digest_bytes hash_after compress rounds schedule first_words
rows_chained = (refl, (refl, (refl, (refl, (refl, (refl, (refl, (refl, (refl, (refl, (refl, (refl, (refl, (refl, (refl, (refl, (refl, (refl, (refl, (refl, (refl, (refl, (refl, (refl, (refl, (refl, (refl, (refl, (refl, (refl, (refl, (refl, (refl, (refl, (refl, (refl, (refl, (refl, (refl, (refl, tt))))))))))))))))))))))))))))))))))))))))

pub zero_row : (depth : ℕ) (d : List ℕ) → depth < 41 → get_or ZERO_HASHES depth d ≡ merkle_root depth []
zero_row depth d h = chained (get_or ZERO_HASHES 0 []) (drop 1 ZERO_HASHES) 0 depth d row_zero rows_chained h ∙ ap (λ n. merkle_root n []) (omega arith)
