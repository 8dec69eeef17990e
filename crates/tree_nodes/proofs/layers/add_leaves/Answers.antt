-- One leaf more.
use Rattle.std.proofs.Common.{ℕ, List, [], ◌∷◌, ◌++◌, length, map, ap, sym, ◌∙◌, arith, length-drop}
use Rattle.std.specs.Vec.Iter.{into_iter_items}
use Rattle.std.proofs.lemmas.List.{length-map}
use Rattle.tree_nodes.specs.inside.Layers.{leaves}
use Rattle.tree_nodes.proofs.Climbs.{leaf_more, leaf_all, drop_next, index_of}
use Rattle.tree_nodes.proofs.layers.add_leaves.Goals as goal

pub leaves-preserved : goal.leaves-preserved
leaves-preserved g c =
    let now = c.in_ok-push.ensures.items ∙ ap (λ (n : ℕ × List _). c.leaves.nodes.items ++ n ∷ []) c.in_ok-known.ensures in
    record {
      made = ap (λ (ns : List (ℕ × List _)). ns ++ leaves (into_iter_items c.next_of.new.rest)) now ∙ leaf_more c.leaves.nodes.items c.next_of.result (into_iter_items c.next_of.new.rest) (c.args.nodes.now.items ++ leaves c.args.items.items) (ap (λ (xs : List _). c.leaves.nodes.items ++ leaves xs) (sym c.next_of.ensures) ∙ c.leaves.invariant.made);
      roots = drop_next c.args.roots.now c.leaves.k (g.T.Leaf.root_of c.next_of.result) (map g.T.Leaf.root_of (into_iter_items c.next_of.new.rest)) (c.leaves.invariant.roots ∙ ap (λ (xs : List _). map g.T.Leaf.root_of xs) c.next_of.ensures);
    }

pub returns : goal.returns
returns g c =
    leaf_all c.leaves.nodes.items (into_iter_items c.leaves.rest) (c.args.nodes.now.items ++ leaves c.args.items.items)
    (omega (arith, c.leaves-test.false, ap length c.leaves.invariant.roots, length-drop c.leaves.k c.args.roots.now, length-map (into_iter_items c.leaves.rest) g.T.Leaf.root_of))
    c.leaves.invariant.made

pub known-requires : goal.known-requires
known-requires g c =
    index_of c.args.roots.now c.leaves.k (g.T.Leaf.root_of c.next_of.result) (map g.T.Leaf.root_of (into_iter_items c.next_of.new.rest)) [] (c.leaves.invariant.roots ∙ ap (λ (xs : List _). map g.T.Leaf.root_of xs) c.next_of.ensures)

pub next_of-requires : goal.next_of-requires
next_of-requires g c =
    omega (arith, c.leaves-test.true, ap length c.leaves.invariant.roots, length-drop c.leaves.k c.args.roots.now, length-map (into_iter_items c.leaves.rest) g.T.Leaf.root_of)
