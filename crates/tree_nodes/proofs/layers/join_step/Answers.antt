-- Half as many roots are written.
use Rattle.std.proofs.Common.{◌/◌, ℕ, List, length, ap, ◌∙◌, arith}
use Rattle.hash_tree.specs.Pairs.{parents}
use Rattle.tree_nodes.specs.inside.Layers.{node_roots}
use Rattle.tree_nodes.proofs.Climbs.{length_roots, length_parents, written_back}
use Rattle.tree_nodes.proofs.layers.join_step.Goals as goal

pub layer_step-requires : goal.layer_step-requires
layer_step-requires g c =
    let long = ap length c.in_ok-roots.ensures ∙ length_roots g.T.Leaf.root_of c.deref.result.now in
    omega (arith, long, ap length c.deref.ensures.value, ap length c.deref-2.ensures.value, ap length c.deref_mut.ensures.value, c.requires.even, c.len.ensures, c.in_ok-above.ensures.len)

pub join-requires-clause-even : goal.join-requires-clause-even
join-requires-clause-even g c =
    let nodes_long = ap length c.deref.ensures.value in
    let roots_long = ap length c.deref-2.ensures.value ∙ (ap length c.in_ok-roots.ensures ∙ length_roots g.T.Leaf.root_of c.deref.result.now) in
    let half = length_parents (length c.args.nodes.items / 2) c.deref-2.result.now (omega (arith, roots_long, nodes_long, c.requires.even)) in
    let value = c.deref-3.ensures.value ∙ (written_back c.in_ok-above.above.len c.layer_step.new.above c.in_ok-above.above.items (omega (arith, half, ap length c.layer_step.ensures.parents, c.len.ensures, c.in_ok-above.ensures.len)) (omega (arith, c.in_ok-above.ensures.len)) ∙ c.layer_step.ensures.parents) in
    omega (arith, half, ap length value, c.requires.even)

pub join-requires-clause-roots : goal.join-requires-clause-roots
join-requires-clause-roots g c =
    let nodes_long = ap length c.deref.ensures.value in
    let roots_long = ap length c.deref-2.ensures.value ∙ (ap length c.in_ok-roots.ensures ∙ length_roots g.T.Leaf.root_of c.deref.result.now) in
    let half = length_parents (length c.args.nodes.items / 2) c.deref-2.result.now (omega (arith, roots_long, nodes_long, c.requires.even)) in
    let value = c.deref-3.ensures.value ∙ (written_back c.in_ok-above.above.len c.layer_step.new.above c.in_ok-above.above.items (omega (arith, half, ap length c.layer_step.ensures.parents, c.len.ensures, c.in_ok-above.ensures.len)) (omega (arith, c.in_ok-above.ensures.len)) ∙ c.layer_step.ensures.parents) in
    value ∙ ap (λ (rs : List (List ℕ)). parents rs) (c.deref-2.ensures.value ∙ (c.in_ok-roots.ensures ∙ ap (λ (ns : List (ℕ × List _)). node_roots g.T.Leaf.root_of ns) c.deref.ensures.value))
