-- The list with one item more, where there is room.
use Rattle.std.proofs.Common.{refl, ap, arith, length, ◌≡◌, ◌+◌, max}
use Rattle.tree_nodes.specs.inside.Puts.{put_at}
use Rattle.shared_tree.proofs.Keeps.{kept_after, push_value, push_full}
use Rattle.tree_nodes.proofs.Puts.{length_put}
use Rattle.shared_tree.proofs.shared_list.SharedList.push_known.Goals as goal

pub returns-then-len-self-clause-pushes : goal.returns-then-len-self-clause-pushes
returns-then-len-self-clause-pushes g c =
    (refl, push_full c.args.self.now c.self.inside.limit c.len-len.result c.args.value c.self.inside.tree.1 c.self.view_is c.len-len.ensures.len c.if-len-self.true)

pub invariant_of-self-2 : goal.invariant_of-self-2
invariant_of-self-2 g c =
    let len = c.len-len.ensures.len in
    let room = c.if-len-self.false in
    let long : length (put_at c.self.inside.tree.1 c.len-len.result c.args.value) ≡ max (length c.self.inside.tree.1) (c.len-len.result + 1) = length_put c.self.inside.tree.1 c.len-len.result c.args.value (omega arith) in
    kept_after g.T.Leaf.root_of c.self.inside.tree c.put_known.new.self (put_at c.self.inside.tree.1 c.len-len.result c.args.value) c.self.inside.limit (c.len-len.result + 1) c.self.inside.root c.mix_step.result c.top.result c.self.invariant c.in_ok-put_known.ensures.put (omega arith) (omega arith) c.top.ensures c.mix_step.ensures.mixed

pub returns-clause-pushes : goal.returns-clause-pushes
returns-clause-pushes g c =
    push_value c.args.self.now c.self.inside.limit c.len-len.result c.args.value c.self.inside.tree.1 c.put_known.new.self.1 c.self.view_is c.len-len.ensures.len c.if-len-self.false (ap (λ (v : _ × _). v.1) c.in_ok-put_known.ensures.put)
