-- Zeros behind the chunks leave the root as it is.
use Rattle.std.proofs.Common.{◌≡◌, ℕ, ◌-◌, ◌++◌, List, length, replicate, ap, ap₂, ◌∙◌, arith}
use Rattle.std.proofs.lemmas.List.{drop-replicate}
use Rattle.hash_tree.specs.Merkle.{merkle_root, zero_root}
use Rattle.hash_tree.proofs.Filled.{zeros_behind}
use Rattle.hash_tree.proofs.tree.filled.Goals as goal

pub returns : goal.returns
returns g c depth wide =
    let chunks = g.R.Row.chunks c.args.row.now in
    let lacking = g.row.N - length chunks in
    ap (merkle_root depth)
    (ap₂ (λ (xs ys : List (List ℕ)). xs ++ ys) c.write_to.ensures
    (drop-replicate c.count.result g.row.N zero_root ∙ ap (λ (k : ℕ). replicate (g.row.N - k) zero_root) c.count.ensures))
    ∙ zeros_behind depth lacking chunks (omega arith)
