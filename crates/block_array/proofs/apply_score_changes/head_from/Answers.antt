use Rattle.std.proofs.Common.{◌≡◌, ◌<◌, length, sym, subst, ap, ◌∙◌, arith}
use Rattle.block_array.specs.declared.best_descendant.BestDescendant.{BestDescendant}
use Rattle.block_array.specs.inside.BestDescendants.{IsHeadFrom}
use Rattle.block_array.proofs.BestDescendants.{child_between, heads_itself, heads_on}
use Rattle.block_array.proofs.apply_score_changes.head_from.Goals as goal

pub best_descendant_at-requires-in-Some : goal.best_descendant_at-requires-in-Some
best_descendant_at-requires-in-Some c =
    let b = child_between c.args.inputs.now.array c.args.tally.now c.nodes-nodes.ensures.plain.tree c.args.bests.now c.args.number c.requires.inside c.requires.made c.requires.are_best c.in-Some.child (ap (λ (r : BestDescendant). r.child) (sym c.best_descendant_at.ensures) ∙ c.in-Some.is) in
    let l : length c.args.bests.now ≡ length c.args.inputs.now.array.nodes = c.requires.are_best.length_is in
    let h : c.in-Some.child < length c.args.inputs.now.array.nodes = b.below in
    omega arith

pub returns-in-Some : goal.returns-in-Some
returns-in-Some c =
    subst (λ (r : BestDescendant). IsHeadFrom c.args.inputs.now.array c.args.number r.descendant) (sym c.best_descendant_at-in-Some.ensures)
    (heads_on c.args.inputs.now.array c.args.tally.now c.nodes-nodes.ensures.plain.tree c.args.bests.now c.args.number c.requires.inside c.requires.made c.requires.are_best c.in-Some.child (ap (λ (r : BestDescendant). r.child) (sym c.best_descendant_at.ensures) ∙ c.in-Some.is))

pub returns-in-None : goal.returns-in-None
returns-in-None c =
    heads_itself c.args.inputs.now.array c.args.tally.now c.nodes-nodes.ensures.plain.tree c.args.bests.now c.args.number c.requires.inside c.requires.made c.requires.are_best (ap (λ (r : BestDescendant). r.child) (sym c.best_descendant_at.ensures) ∙ c.in-None.is)
