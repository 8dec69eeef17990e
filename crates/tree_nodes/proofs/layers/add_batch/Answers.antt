-- The roots written are those of the items.
use Rattle.std.proofs.Common.{List, length, map, ap, ◌∙◌, arith}
use Rattle.std.proofs.lemmas.List.{length-map}
use Rattle.tree_nodes.proofs.Climbs.{written_back}
use Rattle.tree_nodes.proofs.layers.add_batch.Goals as goal

pub add_leaves-requires : goal.add_leaves-requires
add_leaves-requires g c =
    let written = c.write_roots.ensures ∙ ap (λ (xs : List _). map g.T.Leaf.root_of xs) c.deref.ensures.value in
    let roots_long = ap length written ∙ length-map c.args.items.items g.T.Leaf.root_of in
    c.deref-2.ensures.value ∙ (written_back c.in_ok-roots.roots.len c.write_roots.new.out c.in_ok-roots.roots.items (omega (arith, roots_long, c.len.ensures, c.in_ok-roots.ensures.len)) (omega (arith, c.in_ok-roots.ensures.len)) ∙ written)
