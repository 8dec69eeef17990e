-- A tree with one item changed, or one more.
use Rattle.std.proofs.Common.{ℕ, ◌<◌, ◌^◌, List, length, ap, sym, subst, ◌∙◌, arith}
use Rattle.tree_nodes.specs.inside.Puts.{put_at}
use Rattle.tree_nodes.proofs.Keeps.{grown_within, tree_after}
use Rattle.tree_nodes.proofs.tree.Tree.put_known.Goals as goal

pub invariant_of-self : goal.invariant_of-self
invariant_of-self g c =
    let room = subst (λ (v : ℕ × List _). c.args.at < 2 ^ v.0) (sym c.self.view_is) c.requires.room in
    let put = c.in_ok-node.ensures.put ∙ ap (λ (leaf : _). (c.depth_with-low.result, put_at c.self.inside.node.1 c.args.at leaf)) c.in_ok-leaf.ensures in
    tree_after g.T.Leaf.root_of c.self.inside.node c.in_ok-node.node c.self.inside.low c.depth_with-low.result c.self.inside.depth c.self.inside.len c.max-self-inside.result c.args.at c.args.item c.self.inside.top c.lift_steps-self-inside.result c.root.result c.self.invariant put c.depth_with-low.ensures room (omega (arith, c.requires.place, ap (λ (v : ℕ × List _). length v.1) c.self.view_is, c.self.invariant.len_is)) c.max-self-inside.ensures c.root.ensures c.lift_steps-self-inside.ensures.lifts

pub returns-in_err-node-clause-at_most : goal.returns-in_err-node-clause-at_most
returns-in_err-node-clause-at_most g c =
    let room = subst (λ (v : ℕ × List _). c.args.at < 2 ^ v.0) (sym c.self.view_is) c.requires.room in
    let same = ap (λ (v : ℕ × List _). v.0) c.self.view_is in
    let order = grown_within c.self.inside.low c.self.inside.depth c.args.at c.depth_with-low.result c.depth_with-low.ensures c.self.invariant.order room in
    omega (arith, same, order, c.put_or_grow.ensures.at_most)

pub lift_steps-self-inside-requires-clause-order : goal.lift_steps-self-inside-requires-clause-order
lift_steps-self-inside-requires-clause-order g c =
    let room = subst (λ (v : ℕ × List _). c.args.at < 2 ^ v.0) (sym c.self.view_is) c.requires.room in
    grown_within c.self.inside.low c.self.inside.depth c.args.at c.depth_with-low.result c.depth_with-low.ensures c.self.invariant.order room

pub returns-clause-steps : goal.returns-clause-steps
returns-clause-steps g c =
    let room = subst (λ (v : ℕ × List _). c.args.at < 2 ^ v.0) (sym c.self.view_is) c.requires.room in
    let same = ap (λ (v : ℕ × List _). v.0) c.self.view_is in
    let order = grown_within c.self.inside.low c.self.inside.depth c.args.at c.depth_with-low.result c.depth_with-low.ensures c.self.invariant.order room in
    omega (arith, same, order, c.in_ok-node.ensures.steps, c.lift_steps-self-inside.ensures.steps)

pub returns-clause-at_most : goal.returns-clause-at_most
returns-clause-at_most g c =
    let room = subst (λ (v : ℕ × List _). c.args.at < 2 ^ v.0) (sym c.self.view_is) c.requires.room in
    let same = ap (λ (v : ℕ × List _). v.0) c.self.view_is in
    let order = grown_within c.self.inside.low c.self.inside.depth c.args.at c.depth_with-low.result c.depth_with-low.ensures c.self.invariant.order room in
    omega (arith, same, order, c.in_ok-node.ensures.steps, c.lift_steps-self-inside.ensures.steps)
