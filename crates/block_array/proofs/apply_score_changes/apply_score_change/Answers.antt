use Rattle.std.proofs.Common.{◌≡◌, ◌<◌, ◌≤◌, List, Some, slice_get, subst, ap, ◌∙◌, arith}
use Rattle.std.specs.List.{All}
use Rattle.block_array.specs.declared.node.Node.{Node}
use Rattle.block_array.specs.inside.Counts.{all_of, IsBelow}
use Rattle.block_array.specs.inside.BestDescendants.{best_descendant_at}
use Rattle.block_array.proofs.BestDescendants.{step_alone, step_past, step_can, step_gave}
use Rattle.block_array.proofs.apply_score_changes.apply_score_change.Goals as goal

pub give-requires : goal.give-requires
give-requires g c =
    let from_first : c.args.inputs.now.array.justified_node ≤ c.in-Some.parent = omega arith in
    step_can c.args.inputs.now.array c.args.tally.now c.nodes.ensures.plain.tree (subst (λ n. All (IsBelow n) (all_of c.args.tally.now)) c.requires.counted.nodes c.bounds.ensures.below) c.args.bests.now.items c.args.number c.requires.inside c.requires.made c.requires.are_best c.node_at-node.result (subst (λ (ns : List Node). slice_get ns c.args.number ≡ Some c.node_at-node.result) c.nodes.ensures.same c.node_at-node.ensures) c.head_from-descendant.result c.head_from-descendant.ensures c.best_descendant_at-mine.result (c.best_descendant_at-mine.ensures ∙ ap (λ rs. best_descendant_at rs c.args.number) c.deref.ensures.value)
    c.requires.counted c.in-Some.parent c.in-Some.is from_first c.bounds.ensures.low

pub returns-then-justified_node-parent-clause-are_best : goal.returns-then-justified_node-parent-clause-are_best
returns-then-justified_node-parent-clause-are_best g c =
    let from_first : c.args.inputs.now.array.justified_node ≤ c.in-Some.parent = omega arith in
    step_gave c.args.inputs.now.array c.args.tally.now c.nodes.ensures.plain.tree (subst (λ n. All (IsBelow n) (all_of c.args.tally.now)) c.requires.counted.nodes c.bounds.ensures.below) c.args.bests.now.items c.args.number c.requires.inside c.requires.made c.requires.are_best c.node_at-node.result (subst (λ (ns : List Node). slice_get ns c.args.number ≡ Some c.node_at-node.result) c.nodes.ensures.same c.node_at-node.ensures) c.head_from-descendant.result c.head_from-descendant.ensures c.best_descendant_at-mine.result (c.best_descendant_at-mine.ensures ∙ ap (λ rs. best_descendant_at rs c.args.number) c.deref.ensures.value)
    c.requires.counted c.in-Some.parent c.in-Some.is from_first c.bounds.ensures.low c.is_viable-viable.result c.is_viable-viable.ensures c.give.new.bests.items c.give.ensures.gave

pub returns-in-None-clause-are_best : goal.returns-in-None-clause-are_best
returns-in-None-clause-are_best g c =
    step_alone c.args.inputs.now.array c.args.tally.now c.nodes.ensures.plain.tree (subst (λ n. All (IsBelow n) (all_of c.args.tally.now)) c.requires.counted.nodes c.bounds.ensures.below) c.args.bests.now.items c.args.number c.requires.inside c.requires.made c.requires.are_best c.node_at-node.result (subst (λ (ns : List Node). slice_get ns c.args.number ≡ Some c.node_at-node.result) c.nodes.ensures.same c.node_at-node.ensures) c.head_from-descendant.result c.head_from-descendant.ensures c.best_descendant_at-mine.result (c.best_descendant_at-mine.ensures ∙ ap (λ rs. best_descendant_at rs c.args.number) c.deref.ensures.value)
    c.in-None.is

pub returns-else-justified_node-parent-clause-are_best : goal.returns-else-justified_node-parent-clause-are_best
returns-else-justified_node-parent-clause-are_best g c =
    let before : c.in-Some.parent < c.args.inputs.now.array.justified_node = omega arith in
    step_past c.args.inputs.now.array c.args.tally.now c.nodes.ensures.plain.tree (subst (λ n. All (IsBelow n) (all_of c.args.tally.now)) c.requires.counted.nodes c.bounds.ensures.below) c.args.bests.now.items c.args.number c.requires.inside c.requires.made c.requires.are_best c.node_at-node.result (subst (λ (ns : List Node). slice_get ns c.args.number ≡ Some c.node_at-node.result) c.nodes.ensures.same c.node_at-node.ensures) c.head_from-descendant.result c.head_from-descendant.ensures c.best_descendant_at-mine.result (c.best_descendant_at-mine.ensures ∙ ap (λ rs. best_descendant_at rs c.args.number) c.deref.ensures.value)
    c.in-Some.parent c.in-Some.is before
