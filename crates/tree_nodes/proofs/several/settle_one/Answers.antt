-- A layer of one plan.
use Rattle.std.proofs.Common.{rules, length, ap, ◌∙◌, arith}
use Rattle.tree_nodes.proofs.Plans.{length_trees, one_plan, one_pairs, one_tree}
use Rattle.tree_nodes.proofs.several.settle_one.Goals as goal

pub returns-in_err-nodes-clause-steps : goal.returns-in_err-nodes-clause-steps
returns-in_err-nodes-clause-steps g c =
    let one = one_plan c.push.new.self.items c.new-plans.result.items c.args.plan c.new-plans.ensures.items c.in_ok-push.ensures.items in
    let pairs = one_pairs c.push.new.self.items c.args.plan one in
    let steps = c.settle.ensures.steps in
    omega arith

pub unreachable-requires : goal.unreachable-requires
unreachable-requires g c =
    let one = one_plan c.push.new.self.items c.new-plans.result.items c.args.plan c.new-plans.ensures.items c.in_ok-push.ensures.items in
    let long = ap length c.in_ok-nodes.ensures.made ∙ (length_trees c.push.new.self.items ∙ ap length one) in
    absurd (search (rules, long, c.in-None.ensures.cases.0, arith))

pub returns-clause-made : goal.returns-clause-made
returns-clause-made g c =
    let one = one_plan c.push.new.self.items c.new-plans.result.items c.args.plan c.new-plans.ensures.items c.in_ok-push.ensures.items in
    one_tree c.in_ok-nodes.nodes.items c.pop.new.self.items c.in-Some.node c.push.new.self.items c.args.plan one c.in_ok-nodes.ensures.made c.in-Some.ensures.items

pub returns-clause-steps : goal.returns-clause-steps
returns-clause-steps g c =
    let one = one_plan c.push.new.self.items c.new-plans.result.items c.args.plan c.new-plans.ensures.items c.in_ok-push.ensures.items in
    let pairs = one_pairs c.push.new.self.items c.args.plan one in
    let steps = c.settle.ensures.steps in
    omega arith
