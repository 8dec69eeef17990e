-- A node without items is behind any layer.
use Rattle.std.proofs.Common.{ℕ, List, ◌++◌, [], ◌∷◌, ap, sym, subst, ◌∙◌}
use Rattle.tree_nodes.specs.inside.Layers.{held, IsLayer}
use Rattle.tree_nodes.proofs.Climbs.{held_absent, layer_absent}
use Rattle.tree_nodes.proofs.layers.make_even.Goals as goal

pub returns-in_ok-push-clause-layer : goal.returns-in_ok-push-clause-layer
returns-in_ok-push-clause-layer g c =
    let now = c.in_ok-push.ensures.items ∙ ap (λ (n : ℕ × List _). c.args.nodes.now.items ++ n ∷ []) c.absent.ensures in
    subst (λ (ns : List (ℕ × List _)). IsLayer c.args.depth ns) (sym now) (layer_absent c.args.depth c.args.nodes.now.items c.requires.layer)

pub returns-in_ok-push-clause-held : goal.returns-in_ok-push-clause-held
returns-in_ok-push-clause-held g c =
    let now = c.in_ok-push.ensures.items ∙ ap (λ (n : ℕ × List _). c.args.nodes.now.items ++ n ∷ []) c.absent.ensures in
    ap (λ (ns : List (ℕ × List _)). held ns) now ∙ held_absent c.args.depth c.args.nodes.now.items
