-- A tree with many items changed.
use Rattle.std.proofs.Common.{ℕ, ◌+◌, ◌*◌, ◌≤◌, List, length, ap, sym, subst, ◌∙◌, arith}
use Rattle.tree_nodes.specs.Changes.{changed}
use Rattle.tree_nodes.proofs.Keeps.{tree_after_many, many_steps, fewer_steps}
use Rattle.tree_nodes.proofs.Changes.{changed_none}
use Rattle.tree_nodes.proofs.tree.Tree.put_many.Goals as goal

pub invariant_of-self : goal.invariant_of-self
invariant_of-self g c =
    tree_after_many g.T.Leaf.root_of c.self.inside.node c.in_ok-node.node c.self.inside.low c.self.inside.depth c.self.inside.len c.args.changes.items c.self.inside.top c.lift_steps-self-inside.result c.root.result c.self.invariant c.in_ok-node.ensures.put c.root.ensures c.lift_steps-self-inside.ensures.lifts

pub returns-clause-put : goal.returns-clause-put
returns-clause-put g c =
    let items = ap (λ (v : ℕ × List _). v.1) c.in_ok-node.ensures.put in
    ap (λ (xs : List _). (c.self.inside.depth, xs)) items ∙ ap (λ (v : ℕ × List _). (v.0, changed v.1 c.args.changes.items)) c.self.view_is

pub returns-then-count-eq0-clause-put : goal.returns-then-count-eq0-clause-put
returns-then-count-eq0-clause-put g c =
    ap (λ (xs : List _). (c.args.self.now.0, xs)) (sym (changed_none c.args.self.now.1 c.args.changes.items (omega (arith, c.len-count.ensures, c.if-count-eq0.true))))

pub returns-in_err-node-clause-at_most : goal.returns-in_err-node-clause-at_most
returns-in_err-node-clause-at_most g c =
    let same = ap (λ (v : ℕ × List _). v.0) c.self.view_is in
    let few = fewer_steps (length c.args.changes.items) c.self.inside.low c.self.inside.depth c.args.steps.now c.put_all.new.steps c.self.invariant.order c.put_all.ensures.work in
    subst (λ (d : ℕ). c.put_all.new.steps ≤ c.args.steps.now + length c.args.changes.items * d) same few

pub returns-clause-at_most : goal.returns-clause-at_most
returns-clause-at_most g c =
    let same = ap (λ (v : ℕ × List _). v.0) c.self.view_is in
    let few = many_steps (length c.args.changes.items) c.self.inside.low c.self.inside.depth c.args.steps.now c.put_all.new.steps (omega (arith, c.len-count.ensures, c.if-count-eq0.false)) c.self.invariant.order c.put_all.ensures.work in
    subst (λ (d : ℕ). c.lift_steps-self-inside.new.steps ≤ c.args.steps.now + length c.args.changes.items * d) same (omega (arith, c.lift_steps-self-inside.ensures.steps, few))
