-- The list with each change made.
use Rattle.std.proofs.Common.{ℕ, List, length, ap, ◌∙◌, arith}
use Rattle.tree_nodes.specs.Changes.{changed}
use Rattle.shared_tree.proofs.Keeps.{kept_after}
use Rattle.tree_nodes.proofs.Changes.{length_changed}
use Rattle.shared_tree.proofs.shared_list.SharedList.set_many.Goals as goal

pub invariant_of-self-2 : goal.invariant_of-self-2
invariant_of-self-2 g c =
    let same = ap (λ (v : ℕ × List _). length v.1) c.in_ok-put_many.ensures.put in
    let long = length_changed c.self.inside.tree.1 c.args.changes.items in
    let fits = c.self.invariant.fits in
    kept_after g.T.Leaf.root_of c.self.inside.tree c.put_many.new.self (changed c.self.inside.tree.1 c.args.changes.items) c.self.inside.limit c.len.result c.self.inside.root c.mix_step.result c.top.result c.self.invariant c.in_ok-put_many.ensures.put (c.len.ensures.len ∙ same) (omega (arith, c.len.ensures.len)) c.top.ensures c.mix_step.ensures.mixed
