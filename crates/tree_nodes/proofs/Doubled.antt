-- A tree over two trees in which each leaf is the same item.
use Rattle.std.proofs.Common.{◌≡◌, ℕ, suc, ◌+◌, ◌^◌, List, ◌++◌, replicate, refl, sym, ap, ◌∙◌, arith}
use Rattle.std.proofs.lemmas.List.{replicate-append-replicate}
use Rattle.hash_tree.proofs.Halves.{width_halves}

pub doubled : {A : Type 0} (level : ℕ) (x : A) (left node next : ℕ × List A) → node ≡ (level, replicate (2 ^ level) x) → left ≡ node → next ≡ (suc left.0, left.1 ++ node.1) → next ≡ (level + 1, replicate (2 ^ (level + 1)) x)
doubled level x left node next is shared made =
    let one_more : suc level ≡ level + 1 = omega arith in
    made
    ∙ (ap (λ (half : ℕ × List _). (suc half.0, half.1 ++ node.1)) shared
    ∙ (ap (λ (half : ℕ × List _). (suc half.0, half.1 ++ half.1)) is
    ∙ (ap (λ (n : List _). (suc level, n)) (replicate-append-replicate (2 ^ level) (2 ^ level) x ∙ ap (λ (n : ℕ). replicate n x) (sym (width_halves (suc level) level refl)))
    ∙ ap (λ (n : ℕ). (n, replicate (2 ^ n) x)) one_more)))
