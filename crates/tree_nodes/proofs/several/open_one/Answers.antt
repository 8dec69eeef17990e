-- A node goes to the spots, and the halves of a pair behind the others.
use Rattle.std.proofs.Common.{suc, ◌+◌, [], ◌∷◌, ◌++◌, refl, sym, ap, subst, ◌∙◌}
use Rattle.tree_nodes.specs.declared.plan.Halves.{Halves}
use Rattle.tree_nodes.specs.inside.Nodes.{AreHalves}
use Rattle.tree_nodes.proofs.Plans.{when_ok, open_made, open_pair}
use Rattle.tree_nodes.proofs.several.open_one.Goals as goal

pub returns-in_ok-push-in-Made : goal.returns-in_ok-push-in-Made
returns-in_ok-push-in-Made g c = λ plans so_far.
    open_made plans c.args.halves.now.items c.args.spots.now.items c.push.new.self.items c.args.plan c.in-Made.node c.in-Made.ensures.same c.in_ok-push-in-Made.ensures.items so_far

pub returns-in_ok-push-in-Paired : goal.returns-in_ok-push-in-Paired
returns-in_ok-push-in-Paired g c =
    let same = c.into_inner.ensures in
    let pair = c.into_inner.result in
    when_ok c.push_halves.result (λ pushed plans so_far. open_pair plans c.args.halves.now.items (c.args.halves.now.items ++ pair.left ∷ []) c.push_halves.new.halves.items c.args.spots.now.items c.push-in-Paired.new.self.items c.args.plan pair.left pair.right
    (subst (λ (h : Halves _). AreHalves h.left.0 h.right.0) (sym same) c.in-Paired.ensures.plan)
    (ap (λ (h : Halves _). ((suc h.left.0.0, h.left.0.1 ++ h.right.0.1), suc (h.left.1 + h.right.1))) same ∙ c.in-Paired.ensures.same)
    refl pushed c.in_ok-push-in-Paired.ensures.items so_far) c.push_halves.ensures
