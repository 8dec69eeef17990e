-- The halves of a node join the path, and what is first in the left one is first in the node.
use Rattle.std.proofs.Common.{◌≡◌, ℕ, suc, ◌-◌, List, map, sym, ap, subst, ◌∙◌, arith}
use Rattle.tree_nodes.specs.inside.Nodes.{seen, IsNode}
use Rattle.tree_nodes.specs.inside.Walks.{Joins, IsPath, ahead, waiting}
use Rattle.tree_nodes.proofs.Walks.{enter_facts, enters_node, held_laid}
use Rattle.tree_nodes.proofs.iter.+enter.Goals as goal

pub enter-requires : goal.enter-requires
enter-requires g t c κs within =
    let kept = subst (IsNode g.T.Leaf.root_of) c.in-Pair.is c.node.invariant in
    let view = ap seen (sym c.in-Pair.is) ∙ c.node.view_is in
    let facts = enter_facts c.args.node.now c.in-Pair.pair.value.left c.in-Pair.pair.value.right c.deref-in-Pair.result.now.left c.deref.result.now.right (ahead c.args.from c.args.path.now) c.args.from kept.0 view (ap (λ p. p.left) (sym c.deref-in-Pair.ensures)) (ap (λ p. p.right) (sym c.deref.ensures)) c.requires.low c.requires.joins c.requires.path in
    let joins = subst (λ (ns : List (ℕ × List _)). Joins c.deref-in-Pair.result.now.left ns) (sym c.lay.ensures.laid) facts.1 in
    let path = subst (λ (ns : List (ℕ × List _)). IsPath (c.args.from - 1) ns) (sym c.lay.ensures.laid) facts.2 in
    let begun = c.requires.begun in
    let low = c.requires.low in
    let deep : suc c.in-Pair.pair.value.left.0 ≡ c.args.node.now.0 = ap (λ (v : ℕ × List _). v.0) view in
    (omega arith, (within, (c.lay.ensures.room, (omega arith, (facts.0, (joins, path))))))

pub returns-in-Pair-clause-enters : goal.returns-in-Pair-clause-enters
returns-in-Pair-clause-enters g t c =
    let kept = subst (IsNode g.T.Leaf.root_of) c.in-Pair.is c.node.invariant in
    let view = ap seen (sym c.in-Pair.is) ∙ c.node.view_is in
    enters_node c.args.node.now c.in-Pair.pair.value.left c.in-Pair.pair.value.right c.deref-in-Pair.result.now.left c.deref.result.now.right (map (λ leaf. leaf.value.item) c.enter.result.0.now) (waiting c.args.from c.args.path.now) (waiting (c.args.from - 1) c.lay.new.path) (waiting c.enter.result.1 c.enter.new.path) kept.0 view (ap (λ p. p.left) (sym c.deref-in-Pair.ensures)) (ap (λ p. p.right) (sym c.deref.ensures)) (held_laid (ahead (c.args.from - 1) c.lay.new.path) (ahead c.args.from c.args.path.now) c.deref.result.now.right c.lay.ensures.laid) c.enter.ensures.enters
