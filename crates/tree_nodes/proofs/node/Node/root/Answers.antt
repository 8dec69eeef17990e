-- What is kept is the root of what is seen.
use Rattle.std.proofs.Common.{ℕ, List, [], ◌∷◌, map, sym, ap, subst, ◌∙◌, arith}
use Rattle.hash_tree.specs.Merkle.{merkle_root}
use Rattle.hash_tree.proofs.Halves.{merkle_root-zero}
use Rattle.tree_nodes.specs.inside.Nodes.{seen, IsNode}
use Rattle.tree_nodes.proofs.Pairs.{root_of_halves}
use Rattle.tree_nodes.proofs.node.Node.root.Goals as goal

pub returns-in-Item : goal.returns-in-Item
returns-in-Item g c =
    let root_of = g.T.Leaf.root_of in
    let kept = subst (IsNode g.T.Leaf.root_of) c.in-Item.is c.self.invariant in
    let view = ap seen (sym c.in-Item.is) ∙ c.self.view_is in
    ap (λ leaf. leaf.root) c.deref.ensures
    ∙ (kept
    ∙ (sym (merkle_root-zero (g.T.Leaf.root_of c.in-Item.leaf.value.item ∷ []) [] (omega arith))
    ∙ ap (λ (v : ℕ × List _). merkle_root v.0 (map g.T.Leaf.root_of v.1)) view))

pub returns-in-Pair : goal.returns-in-Pair
returns-in-Pair g c =
    let kept = subst (IsNode g.T.Leaf.root_of) c.in-Pair.is c.self.invariant in
    let view = ap seen (sym c.in-Pair.is) ∙ c.self.view_is in
    ap (λ pair. pair.root) c.deref-in-Pair.ensures
    ∙ (kept.1
    ∙ (root_of_halves g.T.Leaf.root_of c.in-Pair.pair.value.left c.in-Pair.pair.value.right kept.0
    ∙ ap (λ (v : ℕ × List _). merkle_root v.0 (map g.T.Leaf.root_of v.1)) view))

pub returns-in-Broad : goal.returns-in-Broad
returns-in-Broad g c =
    let kept = subst (IsNode g.T.Leaf.root_of) c.in-Broad.is c.self.invariant in
    let view = ap seen (sym c.in-Broad.is) ∙ c.self.view_is in
    ap (λ broad. broad.root) c.deref-in-Broad.ensures
    ∙ (kept.1
    ∙ (root_of_halves g.T.Leaf.root_of c.in-Broad.broad.value.left c.in-Broad.broad.value.right kept.0
    ∙ ap (λ (v : ℕ × List _). merkle_root v.0 (map g.T.Leaf.root_of v.1)) view))
