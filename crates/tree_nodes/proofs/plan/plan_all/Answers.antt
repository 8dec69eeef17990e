-- All changes are at the first place or behind.
use Rattle.std.proofs.Common.{◌≡◌, ℕ, ◌+◌, ◌*◌, ◌≤◌, List, length, ap, sym, subst, ◌∙◌, arith}
use Rattle.tree_nodes.specs.Changes.{AreChanges}
use Rattle.tree_nodes.specs.inside.Puts.{changed_in}
use Rattle.tree_nodes.proofs.Keeps.{width_low}
use Rattle.tree_nodes.proofs.Many.{changed_all}
use Rattle.tree_nodes.proofs.Plans.{if_ok}
use Rattle.tree_nodes.proofs.plan.plan_all.Goals as goal

pub plan_many-requires-clause-within : goal.plan_many-requires-clause-within
plan_many-requires-clause-within g c =
    let wide = width_low c.args.depth c.requires.low in
    omega arith

pub returns-clause-put : goal.returns-clause-put
returns-clause-put g c =
    let same = ap (changed_in 0 c.args.node.now.1) c.in_ok-leaves.ensures ∙ changed_all c.args.node.now.1 c.args.changes.items in
    if_ok c.plan_many.result (λ plan put. put ∙ ap (λ (xs : List _). (c.args.depth, xs)) same) c.plan_many.ensures.put

pub plan_many-requires-clause-places : goal.plan_many-requires-clause-places
plan_many-requires-clause-places g c =
    let same : length c.args.node.now.1 ≡ 0 + length c.args.node.now.1 = omega arith in
    subst (λ (cs : List (ℕ × _)). AreChanges 0 (0 + length c.args.node.now.1) cs) (sym c.in_ok-leaves.ensures) (subst (λ (n : ℕ). AreChanges 0 n c.args.changes.items) same c.requires.places)

pub returns-clause-work : goal.returns-clause-work
returns-clause-work g c =
    let same = ap length c.in_ok-leaves.ensures in
    if_ok c.plan_many.result (λ plan work. subst (λ (n : ℕ). plan.1 ≤ n * c.args.depth) same (omega arith)) c.plan_many.ensures.work
