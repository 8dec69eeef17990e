-- One leaf more.
use Rattle.std.proofs.Common.{◌≡◌, ℕ, ◌+◌, ◌<◌, List, [], ◌∷◌, ◌++◌, length, get_or, map, drop, add-one, ap, ◌∙◌, arith, length-drop}
use Rattle.std.specs.Prelude.{zip}
use Rattle.std.specs.Vec.Iter.{into_iter_items}
use Rattle.std.proofs.Math.Seq.{drop-cons}
use Rattle.std.proofs.lemmas.List.{length-map}
use Rattle.tree_nodes.proofs.Climbs.{drop_next, index_of}
use Rattle.tree_nodes.proofs.NewLeaves.{known_more, known_all}
use Rattle.tree_nodes.proofs.new_leaves.add_known.Goals as goal

place_first : (places : List ℕ) (k : ℕ) → k < length places → drop k places ≡ get_or places k 0 ∷ drop (k + 1) places
place_first places k low = rw (add-one, drop-cons places k 0)

pub next_of-requires : goal.next_of-requires
next_of-requires g c =
    omega (arith, c.leaves-test.true, ap length c.leaves.invariant.roots, length-drop c.leaves.k c.args.roots.now, length-map (into_iter_items c.leaves.rest) g.T.Leaf.root_of)

pub leaves-preserved : goal.leaves-preserved
leaves-preserved g c =
    let first = ap length c.next_of.ensures in
    let even = c.leaves.invariant.even in
    let low : c.leaves.k < length c.args.places.now = omega arith in
    record {
      made = known_more c.leaves.leaves.items c.push_known.new.leaves.items (get_or c.args.places.now c.leaves.k 0) c.next_of.result (drop c.leaves.k c.args.places.now) (drop (c.leaves.k + 1) c.args.places.now) (into_iter_items c.leaves.rest) (into_iter_items c.next_of.new.rest) (c.args.leaves.now.items ++ zip c.args.places.now c.args.items.items) (place_first c.args.places.now c.leaves.k low) c.next_of.ensures c.in_ok-push_known.ensures c.leaves.invariant.made;
      even = omega arith;
      roots = drop_next c.args.roots.now c.leaves.k (g.T.Leaf.root_of c.next_of.result) (map g.T.Leaf.root_of (into_iter_items c.next_of.new.rest)) (c.leaves.invariant.roots ∙ ap (λ (xs : List _). map g.T.Leaf.root_of xs) c.next_of.ensures);
    }

pub returns : goal.returns
returns g c =
    known_all c.leaves.leaves.items (drop c.leaves.k c.args.places.now) (into_iter_items c.leaves.rest) (c.args.leaves.now.items ++ zip c.args.places.now c.args.items.items)
    (omega (arith, c.leaves-test.false, ap length c.leaves.invariant.roots, length-drop c.leaves.k c.args.roots.now, length-map (into_iter_items c.leaves.rest) g.T.Leaf.root_of))
    c.leaves.invariant.made

pub push_known-requires : goal.push_known-requires
push_known-requires g c =
    index_of c.args.roots.now c.leaves.k (g.T.Leaf.root_of c.next_of.result) (map g.T.Leaf.root_of (into_iter_items c.next_of.new.rest)) [] (c.leaves.invariant.roots ∙ ap (λ (xs : List _). map g.T.Leaf.root_of xs) c.next_of.ensures)
