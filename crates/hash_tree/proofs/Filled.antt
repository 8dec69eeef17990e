-- Zero chunks behind the chunks of a tree leave its root as it is.
use Rattle.std.proofs.Common.{◌≡◌, ℕ, zero, suc, ◌+◌, ◌^◌, ◌<◌, ◌≤◌, List, [], ◌∷◌, ◌++◌, length, take, drop, replicate, refl, sym, ap, ap₂, ◌∙◌, arith, inl, inr, append_assoc, append-nil, length-append, length-drop}
use Rattle.std.proofs.lemmas.Bool.{cases_lt}
use Rattle.std.proofs.lemmas.List.{take-append-le, drop-append-le, take_all, drop_all}
use Rattle.hash_tree.specs.Merkle.{hash, merkle_root, zero_root}
use Rattle.hash_tree.proofs.Halves.{merkle_root-suc, width_halves}

one_more : (depth : ℕ) (chunks : List (List ℕ)) → length chunks < 2 ^ depth → merkle_root depth (chunks ++ zero_root ∷ []) ≡ merkle_root depth chunks
unfolding merkle_root
one_more zero [] room = refl
one_more zero (chunk ∷ chunks) room = refl
one_more (suc depth) chunks room =
    let width = 2 ^ depth in
    let whole : 2 ^ suc depth ≡ width + width = width_halves (suc depth) depth refl in
    let more = chunks ++ zero_root ∷ [] in
    let long : length more ≡ length chunks + 1 = length-append chunks (zero_root ∷ []) in
    let halves : merkle_root (suc depth) more ≡ hash (merkle_root depth (take width more) ++ merkle_root depth (drop width more)) = refl in
    elim (cases_lt (length chunks) width) [
      | inl left ↦
          let front : merkle_root depth (take width more) ≡ merkle_root depth (take width chunks) =
          ap (merkle_root depth) (take_all width more (omega arith)) ∙ (one_more depth chunks left ∙ sym (ap (merkle_root depth) (take_all width chunks (omega arith)))) in
          let back : merkle_root depth (drop width more) ≡ merkle_root depth (drop width chunks) =
          ap (merkle_root depth) (drop_all width more (omega arith) ∙ sym (drop_all width chunks (omega arith))) in
          ap₂ (λ (l r : List ℕ). hash (l ++ r)) front back
      | inr right ↦
          let front : merkle_root depth (take width more) ≡ merkle_root depth (take width chunks) =
          ap (merkle_root depth) (take-append-le width chunks (zero_root ∷ []) (omega arith)) in
          let back : merkle_root depth (drop width more) ≡ merkle_root depth (drop width chunks) =
          ap (merkle_root depth) (drop-append-le width chunks (zero_root ∷ []) (omega arith)) ∙ one_more depth (drop width chunks) (omega (arith, length-drop width chunks)) in
          ap₂ (λ (l r : List ℕ). hash (l ++ r)) front back
    ]

pub zeros_behind : (depth n : ℕ) (chunks : List (List ℕ)) → length chunks + n ≤ 2 ^ depth → merkle_root depth (chunks ++ replicate n zero_root) ≡ merkle_root depth chunks
zeros_behind depth zero chunks room = ap (merkle_root depth) (append-nil chunks)
zeros_behind depth (suc n) chunks room =
    ap (merkle_root depth) (sym (append_assoc chunks (zero_root ∷ []) (replicate n zero_root)))
    ∙ (zeros_behind depth n (chunks ++ zero_root ∷ []) (omega (arith, length-append chunks (zero_root ∷ []))) ∙ one_more depth chunks (omega arith))
