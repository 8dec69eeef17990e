-- The pairs of a layer.
use Rattle.std.proofs.Common.{◌≡◌, ℕ, zero, suc, ◌*◌, List, [], ◌∷◌, length, refl, ap, arith}
use Rattle.std.specs.Simd.{first_chunks}
use Rattle.sha2.specs.Sha256.{sha256}
use Rattle.hash_tree.specs.Pairs.{message, hashes_of, parents}

-- the hashes of the nodes two by two are the parents
pub pairs_of : (k : ℕ) (nodes : List (List ℕ)) → length nodes ≡ 2 * k → hashes_of (first_chunks 2 k nodes) ≡ parents nodes
unfolding hashes_of parents
pairs_of zero [] long = refl
pairs_of zero (a ∷ nodes) long = absurd (omega arith)
pairs_of (suc k) [] long = absurd (omega arith)
pairs_of (suc k) (a ∷ []) long = absurd (omega arith)
pairs_of (suc k) (a ∷ (b ∷ nodes)) long = ap (λ (rest : List (List ℕ)). sha256 (message (a ∷ (b ∷ []))) ∷ rest) (pairs_of k nodes (omega arith))
