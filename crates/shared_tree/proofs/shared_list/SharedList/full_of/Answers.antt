-- The tree of as many items as there may be.
use Rattle.std.proofs.Common.{◌≡◌, ℕ, ◌^◌, length, replicate, ap, ◌∙◌, arith}
use Rattle.std.proofs.lemmas.List.{length-replicate}
use Rattle.shared_tree.proofs.Keeps.{kept_new}
use Rattle.shared_tree.proofs.shared_list.SharedList.full_of.Goals as goal

pub invariant_of-result : goal.invariant_of-result
invariant_of-result g c =
    let width : 2 ^ c.depth_of.result ≡ c.args.limit = ap (λ (d : ℕ). 2 ^ d) c.depth_of.ensures.depth ∙ c.requires.whole in
    let long : length (replicate (2 ^ c.depth_of.result) c.args.item) ≡ c.args.limit = length-replicate (2 ^ c.depth_of.result) c.args.item ∙ width in
    kept_new g.T.Leaf.root_of c.in_ok-tree.tree (replicate (2 ^ c.depth_of.result) c.args.item) c.args.limit c.depth_of.result c.len.result c.mix_in_length-root.result c.top.result c.in_ok-tree.ensures c.depth_of.ensures.depth c.depth_of.ensures.fits c.requires.low (omega (arith, long)) c.len.ensures.len c.top.ensures c.mix_in_length-root.ensures
