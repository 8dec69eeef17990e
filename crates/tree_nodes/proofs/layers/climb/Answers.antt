-- The layer above an even one.
use Rattle.std.proofs.Common.{ℕ, suc, ◌+◌, ◌/◌, List, length, ap, sym, subst, ◌∙◌, arith}
use Rattle.tree_nodes.specs.inside.Layers.{held, IsLayer}
use Rattle.tree_nodes.proofs.Climbs.{are_paired, paired_layer, held_paired, length_paired}
use Rattle.tree_nodes.proofs.Plans.{if_ok}
use Rattle.tree_nodes.proofs.layers.climb.Goals as goal

pub join_step-requires-clause-halves : goal.join_step-requires-clause-halves
join_step-requires-clause-halves g c = are_paired c.args.depth c.make_even.new.nodes.items c.in_ok-make_even.ensures.layer

pub join_step-requires-clause-even : goal.join_step-requires-clause-even
join_step-requires-clause-even g c = let even = c.in_ok-make_even.ensures.even in omega arith

pub returns-clause-layer : goal.returns-clause-layer
returns-clause-layer g c =
    let layer = paired_layer c.args.depth ((length c.args.nodes.items + 1) / 2) c.make_even.new.nodes.items c.in_ok-make_even.ensures.even c.in_ok-make_even.ensures.layer in
    if_ok c.join_step.result (λ above is. subst (λ (ns : List (ℕ × List _)). IsLayer (suc c.args.depth) ns) (sym is) layer) c.join_step.ensures.joined

pub returns-clause-held : goal.returns-clause-held
returns-clause-held g c =
    let same = held_paired ((length c.args.nodes.items + 1) / 2) c.make_even.new.nodes.items c.in_ok-make_even.ensures.even ∙ c.in_ok-make_even.ensures.held in
    if_ok c.join_step.result (λ above is. ap (λ (ns : List (ℕ × List _)). held ns) is ∙ same) c.join_step.ensures.joined

pub returns-clause-count : goal.returns-clause-count
returns-clause-count g c =
    let half = length_paired ((length c.args.nodes.items + 1) / 2) c.make_even.new.nodes.items c.in_ok-make_even.ensures.even in
    if_ok c.join_step.result (λ above is. ap length is ∙ half) c.join_step.ensures.joined

pub returns-clause-steps : goal.returns-clause-steps
returns-clause-steps g c =
    let even = c.in_ok-make_even.ensures.even in
    let took = c.join_step.ensures.steps in
    omega arith
