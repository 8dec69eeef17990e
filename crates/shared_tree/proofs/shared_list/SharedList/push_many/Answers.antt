-- The list with the items behind its last.
use Rattle.std.proofs.Common.{ℕ, List, ◌++◌, length, ap, ◌∙◌, arith, length-append}
use Rattle.shared_tree.proofs.Keeps.{kept_after}
use Rattle.shared_tree.proofs.shared_list.SharedList.push_many.Goals as goal

pub invariant_of-self-2 : goal.invariant_of-self-2
invariant_of-self-2 g c =
    let same = ap (λ (v : ℕ × List _). length v.1) c.in_ok-push_many.ensures.push in
    let long = length-append c.self.inside.tree.1 c.args.leaves.items in
    let was = ap (λ l. length l.items) c.self.view_is in
    let limit = ap (λ l. l.limit) c.self.view_is in
    kept_after g.T.Leaf.root_of c.self.inside.tree c.push_many.new.self (c.self.inside.tree.1 ++ c.args.leaves.items) c.self.inside.limit c.len.result c.self.inside.root c.mix_step.result c.top.result c.self.invariant c.in_ok-push_many.ensures.push (c.len.ensures.len ∙ same) (omega (arith, c.len.ensures.len, c.requires.fits)) c.top.ensures c.mix_step.ensures.mixed
