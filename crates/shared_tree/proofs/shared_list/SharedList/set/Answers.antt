-- The list with the item set.
use Rattle.std.proofs.Common.{◌≡◌, ◌<◌, ◌+◌, ℕ, List, length, max, ap, ◌∙◌, arith}
use Rattle.std.specs.Prelude.{slice_set}
use Rattle.shared_tree.specs.Lists.{Limited}
use Rattle.tree_nodes.specs.inside.Puts.{put_at}
use Rattle.shared_tree.proofs.Keeps.{kept_unrooted, seen_after}
use Rattle.tree_nodes.proofs.Puts.{length_put, put_set}
use Rattle.shared_tree.proofs.shared_list.SharedList.set.Goals as goal

pub invariant_of-self-2 : goal.invariant_of-self-2
invariant_of-self-2 g c =
    let view = ap (λ (l : Limited _). length l.items) c.self.view_is in
    let within : c.args.i < length c.self.inside.tree.1 = omega (arith, c.requires) in
    let long : length (put_at c.self.inside.tree.1 c.args.i c.args.value) ≡ max (length c.self.inside.tree.1) (c.args.i + 1) = length_put c.self.inside.tree.1 c.args.i c.args.value (omega arith) in
    let fits = c.self.invariant.fits in
    kept_unrooted g.T.Leaf.root_of c.self.inside.tree c.put.new.self (put_at c.self.inside.tree.1 c.args.i c.args.value) c.self.inside.limit c.self.inside.root c.self.invariant c.in_ok-put.ensures.put (omega arith)

pub returns-clause-set : goal.returns-clause-set
returns-clause-set g c =
    seen_after c.args.self.now c.self.inside.limit c.self.inside.tree.1 c.put.new.self.1 (slice_set c.args.self.now.items c.args.i c.args.value) c.self.view_is
    (ap (λ (v : ℕ × List _). v.1) c.in_ok-put.ensures.put ∙ (ap (λ (l : Limited _). put_at l.items c.args.i c.args.value) c.self.view_is ∙ put_set c.args.self.now.items c.args.i c.args.value c.requires))
