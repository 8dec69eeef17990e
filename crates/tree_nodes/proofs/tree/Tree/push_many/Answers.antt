-- A tree with more items, which is as deep as before or deeper.
use Rattle.std.proofs.Common.{ℕ, ◌+◌, ◌*◌, ◌≤◌, List, length, ap, subst, arith}
use Rattle.tree_nodes.proofs.Keeps.{no_lower, many_steps}
use Rattle.tree_nodes.proofs.tree.Tree.push_many.Goals as goal

pub add_all-requires-clause-order : goal.add_all-requires-clause-order
add_all-requires-clause-order g c =
    no_lower c.self.inside.low c.depth_over-low.result c.self.inside.len (c.self.inside.len + c.len-count.result) c.self.invariant.least (omega (arith, c.if-count-eq0.false)) c.depth_over-low.ensures.room

pub returns-clause-at_most : goal.returns-clause-at_most
returns-clause-at_most g c =
    let same = ap (λ (v : ℕ × List _). v.0) c.self.view_is in
    let few = many_steps (length c.args.leaves.items) c.depth_over-low.result c.self.inside.depth c.args.steps.now c.add_all.new.steps (omega (arith, c.len-count.ensures, c.if-count-eq0.false)) c.depth_over-low.ensures.low c.add_all.ensures.work in
    subst (λ (d : ℕ). c.lift_steps-self-inside.new.steps ≤ c.args.steps.now + length c.args.leaves.items * d) same (omega (arith, c.lift_steps-self-inside.ensures.steps, few))
