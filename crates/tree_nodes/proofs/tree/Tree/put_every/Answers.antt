-- A tree with other items.
use Rattle.std.proofs.Common.{ℕ, ◌+◌, ◌*◌, ◌≤◌, List, length, ap, subst, ◌∙◌, arith}
use Rattle.tree_nodes.proofs.Keeps.{tree_after_all, many_steps, fewer_steps}
use Rattle.tree_nodes.proofs.tree.Tree.put_every.Goals as goal

pub invariant_of-self : goal.invariant_of-self
invariant_of-self g c =
    tree_after_all g.T.Leaf.root_of c.self.inside.node c.in_ok-node.node c.self.inside.low c.self.inside.depth c.self.inside.len c.args.items.items c.self.inside.top c.lift_steps-self-inside.result c.root.result c.self.invariant (omega (arith, c.requires.every, ap (λ (v : ℕ × List _). length v.1) c.self.view_is)) c.in_ok-node.ensures.built c.root.ensures c.lift_steps-self-inside.ensures.lifts

pub returns-clause-put : goal.returns-clause-put
returns-clause-put g c =
    let items = ap (λ (v : ℕ × List _). v.1) c.in_ok-node.ensures.built in
    ap (λ (xs : List _). (c.self.inside.depth, xs)) items ∙ ap (λ (v : ℕ × List _). (v.0, c.args.items.items)) c.self.view_is

pub returns-in_err-node-clause-at_most : goal.returns-in_err-node-clause-at_most
returns-in_err-node-clause-at_most g c =
    let same = ap (λ (v : ℕ × List _). v.0) c.self.view_is in
    let few = fewer_steps (length c.args.items.items) c.self.inside.low c.self.inside.depth c.args.steps.now c.layered.new.steps c.self.invariant.order c.layered.ensures.work in
    subst (λ (d : ℕ). c.layered.new.steps ≤ c.args.steps.now + length c.args.items.items * d) same few

pub returns-clause-at_most : goal.returns-clause-at_most
returns-clause-at_most g c =
    let same = ap (λ (v : ℕ × List _). v.0) c.self.view_is in
    let few = many_steps (length c.args.items.items) c.self.inside.low c.self.inside.depth c.args.steps.now c.layered.new.steps c.requires.some c.self.invariant.order c.layered.ensures.work in
    subst (λ (d : ℕ). c.lift_steps-self-inside.new.steps ≤ c.args.steps.now + length c.args.items.items * d) same (omega (arith, c.lift_steps-self-inside.ensures.steps, few))
