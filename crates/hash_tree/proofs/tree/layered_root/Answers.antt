use Rattle.std.proofs.Common.{◌≡◌, ℕ, ap, sym, ◌∙◌, refl, arith}
use Rattle.hash_tree.specs.Merkle.{merkle_root}
use Rattle.hash_tree.proofs.tree.layered_root.Goals as goal

pub returns-then-depth-eq3 : goal.returns-then-depth-eq3
returns-then-depth-eq3 g c =
    let is : 3 ≡ c.args.depth = omega arith in
    c.root_of_eight.ensures ∙ (c.filled.ensures 3 refl ∙ ap (λ (d : ℕ). merkle_root d (g.R.Row.chunks c.args.row.now)) is)

pub returns-then-depth-eq4 : goal.returns-then-depth-eq4
returns-then-depth-eq4 g c =
    let is : 4 ≡ c.args.depth = omega arith in
    c.root_of_sixteen.ensures ∙ (c.filled-then-depth-eq4.ensures 4 refl ∙ ap (λ (d : ℕ). merkle_root d (g.R.Row.chunks c.args.row.now)) is)

pub returns-then-depth-eq5 : goal.returns-then-depth-eq5
returns-then-depth-eq5 g c =
    let is : 5 ≡ c.args.depth = omega arith in
    c.root_of_thirty_two.ensures ∙ (c.filled-then-depth-eq5.ensures 5 refl ∙ ap (λ (d : ℕ). merkle_root d (g.R.Row.chunks c.args.row.now)) is)

pub returns : goal.returns
returns g c =
    let is : 6 ≡ c.args.depth = omega arith in
    c.root_of_sixty_four.ensures ∙ (c.filled-2.ensures 6 refl ∙ ap (λ (d : ℕ). merkle_root d (g.R.Row.chunks c.args.row.now)) is)
