-- A tree of chunks by its layers: the root of a full layer is that of its parents, one layer lower.
use Rattle.std.proofs.Common.{◌≡◌, ℕ, zero, suc, ◌+◌, ◌*◌, ◌^◌, ◌<◌, List, [], ◌∷◌, ◌++◌, length, take, drop, get_or, refl, sym, ap, ap₂, ◌∙◌, arith, length-drop}
use Rattle.std.proofs.lemmas.List.{length-take-le}
use Rattle.hash_tree.specs.Pairs.{parents}
use Rattle.hash_tree.specs.Merkle.{hash, merkle_root}
use Rattle.hash_tree.proofs.Halves.{merkle_root-suc, width_halves}

twice_suc : (n : ℕ) → 2 * suc n ≡ suc (suc (2 * n))
twice_suc n = omega arith

parents_of_taken : (n : ℕ) (nodes : List (List ℕ)) → parents (take (2 * n) nodes) ≡ take n (parents nodes)
unfolding parents hash
parents_of_taken zero nodes = refl
parents_of_taken (suc n) [] = rw twice_suc refl
parents_of_taken (suc n) (a ∷ []) = rw twice_suc refl
parents_of_taken (suc n) (a ∷ (b ∷ nodes)) = rw twice_suc (ap (λ (rest : List (List ℕ)). hash (a ++ b) ∷ rest) (parents_of_taken n nodes))

parents_of_dropped : (n : ℕ) (nodes : List (List ℕ)) → parents (drop (2 * n) nodes) ≡ drop n (parents nodes)
unfolding parents
parents_of_dropped zero nodes = refl
parents_of_dropped (suc n) [] = rw twice_suc refl
parents_of_dropped (suc n) (a ∷ []) = rw twice_suc refl
parents_of_dropped (suc n) (a ∷ (b ∷ nodes)) = rw twice_suc (parents_of_dropped n nodes)

one_pair : (nodes : List (List ℕ)) → length nodes ≡ 2 → merkle_root 1 nodes ≡ merkle_root 0 (parents nodes)
unfolding merkle_root parents hash
one_pair [] long = absurd (omega arith)
one_pair (a ∷ []) long = absurd (omega arith)
one_pair (a ∷ (b ∷ [])) long = refl
one_pair (a ∷ (b ∷ (c ∷ nodes))) long = absurd (omega arith)

pub one_layer : (depth : ℕ) (nodes : List (List ℕ)) → length nodes ≡ 2 ^ suc depth → merkle_root (suc depth) nodes ≡ merkle_root depth (parents nodes)
one_layer zero nodes long = one_pair nodes long
one_layer (suc depth) nodes long =
    let whole : 2 ^ suc (suc depth) ≡ 2 ^ suc depth + 2 ^ suc depth = width_halves (suc (suc depth)) (suc depth) refl in
    let half : 2 ^ suc depth ≡ 2 * 2 ^ depth = let e : 2 ^ suc depth ≡ 2 ^ depth + 2 ^ depth = width_halves (suc depth) depth refl in omega arith in
    let left : merkle_root (suc depth) (take (2 ^ suc depth) nodes) ≡ merkle_root depth (take (2 ^ depth) (parents nodes)) =
    one_layer depth (take (2 ^ suc depth) nodes) (length-take-le (2 ^ suc depth) nodes (omega arith))
    ∙ ap (merkle_root depth) (ap (λ (n : ℕ). parents (take n nodes)) half ∙ parents_of_taken (2 ^ depth) nodes) in
    let right : merkle_root (suc depth) (drop (2 ^ suc depth) nodes) ≡ merkle_root depth (drop (2 ^ depth) (parents nodes)) =
    one_layer depth (drop (2 ^ suc depth) nodes) (length-drop (2 ^ suc depth) nodes ∙ omega arith)
    ∙ ap (merkle_root depth) (ap (λ (n : ℕ). parents (drop n nodes)) half ∙ parents_of_dropped (2 ^ depth) nodes) in
    merkle_root-suc (suc depth) nodes ∙ (ap₂ (λ (l r : List ℕ). hash (l ++ r)) left right ∙ sym (merkle_root-suc depth (parents nodes)))

pub two_nodes : (nodes : List (List ℕ)) → length nodes ≡ 2 → merkle_root 1 nodes ≡ hash (get_or nodes 0 [] ++ get_or nodes 1 [])
unfolding merkle_root
two_nodes [] long = absurd (omega arith)
two_nodes (a ∷ []) long = absurd (omega arith)
two_nodes (a ∷ (b ∷ [])) long = refl
two_nodes (a ∷ (b ∷ (c ∷ nodes))) long = absurd (omega arith)

-- lists of the same items are the same
pub same_items : (xs ys : List (List ℕ)) → length xs ≡ length ys → ((k : ℕ) → k < length ys → get_or xs k [] ≡ get_or ys k []) → xs ≡ ys
same_items [] [] same each = refl
same_items [] (y ∷ ys) same each = absurd (omega arith)
same_items (x ∷ xs) [] same each = absurd (omega arith)
same_items (x ∷ xs) (y ∷ ys) same each = ap₂ (λ (a : List ℕ) (b : List (List ℕ)). a ∷ b) (each zero (omega arith)) (same_items xs ys (omega arith) (λ k less. each (suc k) (omega arith)))
