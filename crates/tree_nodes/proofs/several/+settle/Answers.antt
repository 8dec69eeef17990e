-- The layer below, then the pairs of this one.
use Rattle.std.proofs.Common.{◌≡◌, ℕ, ◌<◌, List, length, sym, ap, subst, ◌∙◌, arith}
use Rattle.std.specs.Prelude.{IfOk}
use Rattle.tree_nodes.specs.inside.Layers.{paired}
use Rattle.tree_nodes.specs.inside.Plans.{filled}
use Rattle.tree_nodes.proofs.Plans.{all_made, pairs_fit, length_trees}
use Rattle.tree_nodes.proofs.several.+settle.Goals as goal

pub returns-then-count-eq0-clause-made : goal.returns-then-count-eq0-clause-made
returns-then-count-eq0-clause-made g t c =
    let none : length c.in_ok-spots.halves.items ≡ 0 = omega (arith, c.if-count-eq0.true, c.len-count.ensures) in
    subst (λ (ns : List (ℕ × List _)). IfOk c.fill.result (λ nodes. nodes.items ≡ ns))
    (ap (λ (ns : List (ℕ × List _)). filled c.in_ok-spots.spots.items ns) c.new.ensures.items ∙ all_made c.args.plans.items c.in_ok-spots.halves.items c.in_ok-spots.spots.items c.in_ok-spots.ensures none)
    c.fill.ensures

pub overflow_sub-depth : goal.overflow_sub-depth
overflow_sub-depth g t c =
    let some : 0 < length c.in_ok-spots.halves.items = omega (arith, c.if-count-eq0.false, c.len-count.ensures) in
    let deep : 0 < c.args.depth = (c.in_ok-spots.ensures.lower c.args.depth c.requires).1 some in
    omega arith

pub settle-requires : goal.settle-requires
settle-requires g t c κs within =
    let some : 0 < length c.in_ok-spots.halves.items = omega (arith, c.if-count-eq0.false, c.len-count.ensures) in
    let lower = c.in_ok-spots.ensures.lower c.args.depth c.requires in
    let deep : 0 < c.args.depth = lower.1 some in
    let less = c.decreases in
    (omega arith, (within.0, (within.1, lower.0)))

pub join_step-requires-clause-even : goal.join_step-requires-clause-even
join_step-requires-clause-even g t c =
    let long = ap length c.in_ok-below.ensures.made ∙ (length_trees c.in_ok-spots.halves.items ∙ c.in_ok-spots.ensures.two_each) in
    omega arith

pub returns-in_err-joined-clause-steps : goal.returns-in_err-joined-clause-steps
returns-in_err-joined-clause-steps g t c =
    let long = ap length c.in_ok-below.ensures.made ∙ (length_trees c.in_ok-spots.halves.items ∙ c.in_ok-spots.ensures.two_each) in
    let fewer = c.in_ok-spots.ensures.fewer in
    let below = c.settle.ensures.steps in
    let joined = c.join_step.ensures.steps in
    omega arith

pub fill-requires-2 : goal.fill-requires-2
fill-requires-2 g t c =
    pairs_fit c.args.plans.items c.in_ok-spots.halves.items c.in_ok-spots.spots.items c.in_ok-spots.ensures
    ∙ sym (ap length (c.in_ok-joined.ensures.joined ∙ ap paired c.in_ok-below.ensures.made))

pub returns-clause-steps : goal.returns-clause-steps
returns-clause-steps g t c =
    let long = ap length c.in_ok-below.ensures.made ∙ (length_trees c.in_ok-spots.halves.items ∙ c.in_ok-spots.ensures.two_each) in
    let fewer = c.in_ok-spots.ensures.fewer in
    let below = c.settle.ensures.steps in
    let joined = c.join_step.ensures.steps in
    omega arith
