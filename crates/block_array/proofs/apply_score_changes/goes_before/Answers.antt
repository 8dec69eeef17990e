-- Of two nodes that weigh as much, the one of the greater root goes before the other.
use Rattle.std.proofs.Common.{ap, ◌∙◌}
use Rattle.block_array.specs.declared.best_descendant.BestDescendant.{BestDescendant}
use Rattle.block_array.specs.PlainArray.{root_at}
use Rattle.block_array.specs.inside.BestDescendants.{IsWeighed}
use Rattle.block_array.proofs.Bests.{tie_by_root}
use Rattle.block_array.proofs.apply_score_changes.goes_before.Goals as goal

pub returns-then-other-weight-2 : goal.returns-then-other-weight-2
unfolding IsWeighed
returns-then-other-weight-2 c =
    c.is_greater_root.ensures
    ∙ tie_by_root c.args.inputs.now.array c.args.a c.args.b c.best_descendant_at-weight.result.weight c.best_descendant_at-other.result.weight c.root_of.result c.root_of-then-other-weight-2.result
    (ap (λ (best : BestDescendant). best.weight) c.best_descendant_at-weight.ensures ∙ c.requires.a_weighed) (ap (λ (best : BestDescendant). best.weight) c.best_descendant_at-other.ensures ∙ c.requires.b_weighed) c.if-other-weight-2.true
    (c.root_of.ensures ∙ ap (λ nodes. root_at nodes c.args.a) c.nodes-nodes.ensures.same) (c.root_of-then-other-weight-2.ensures ∙ ap (λ nodes. root_at nodes c.args.b) c.nodes-nodes.ensures.same)
