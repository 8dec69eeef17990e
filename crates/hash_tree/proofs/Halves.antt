-- a tree of chunks by its two halves
use Rattle.std.proofs.Common.{ℕ, suc, ◌+◌, ◌^◌, ◌<◌, ◌≤◌, ◌≡◌, List, [], ◌∷◌, ◌++◌, length, get_or, take, drop, refl, sym, ap, ◌∙◌, arith}
use Rattle.std.proofs.lemmas.List.{take_all, drop_all}
use Rattle.std.proofs.lemmas.Grind.{common_steps}
use Rattle.hash_tree.specs.Merkle.{hash, merkle_root}

pub merkle_root-suc : (depth : ℕ) (chunks : List (List ℕ)) → merkle_root (suc depth) chunks ≡ hash (merkle_root depth (take (2 ^ depth) chunks) ++ merkle_root depth (drop (2 ^ depth) chunks))
unfolding merkle_root
merkle_root-suc depth chunks = refl

pub merkle_root-halves : (depth lower : ℕ) (chunks left right : List (List ℕ)) → depth ≡ suc lower → left ≡ take (2 ^ lower) chunks → right ≡ drop (2 ^ lower) chunks → merkle_root depth chunks ≡ hash (merkle_root lower left ++ merkle_root lower right)
merkle_root-halves depth lower chunks left right e l r = rw (e, l, r, merkle_root-suc)

pub merkle_root-short : (depth lower : ℕ) (chunks : List (List ℕ)) → depth ≡ suc lower → length chunks ≤ 2 ^ lower → merkle_root depth chunks ≡ hash (merkle_root lower chunks ++ merkle_root lower [])
merkle_root-short depth lower chunks e h =
    merkle_root-halves depth lower chunks chunks [] e (sym (take_all (2 ^ lower) chunks h)) (sym (drop_all (2 ^ lower) chunks h))

pub merkle_root-nil : (depth : ℕ) (chunks : List (List ℕ)) → length chunks ≡ 0 → merkle_root depth chunks ≡ merkle_root depth []
merkle_root-nil depth [] h = refl
merkle_root-nil depth (chunk ∷ chunks) h = absurd (omega arith)

pub merkle_root-zero : (chunks : List (List ℕ)) (d : List ℕ) → 0 < length chunks → merkle_root 0 chunks ≡ get_or chunks 0 d
unfolding merkle_root
merkle_root-zero [] d h = absurd (omega arith)
merkle_root-zero (chunk ∷ chunks) d h = refl

pub merkle_root-at_zero : (depth : ℕ) (chunks : List (List ℕ)) (d : List ℕ) → depth ≡ 0 → 0 < length chunks → merkle_root depth chunks ≡ get_or chunks 0 d
merkle_root-at_zero depth chunks d e h = rw e (merkle_root-zero chunks d h)

pub width_halves : (depth lower : ℕ) → depth ≡ suc lower → 2 ^ depth ≡ 2 ^ lower + 2 ^ lower
width_halves depth lower e = ap (λ d. 2 ^ d) e ∙ grind (arith, common_steps)
