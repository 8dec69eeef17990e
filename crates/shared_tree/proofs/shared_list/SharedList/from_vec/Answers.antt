-- The tree of all items.
use Rattle.shared_tree.proofs.Keeps.{kept_new}
use Rattle.shared_tree.proofs.shared_list.SharedList.from_vec.Goals as goal

pub invariant_of-result : goal.invariant_of-result
invariant_of-result g c =
    kept_new g.T.Leaf.root_of c.in_ok-tree.tree c.args.items.items c.args.limit c.depth_of.result c.len.result c.mix_in_length-root.result c.top.result c.in_ok-tree.ensures c.depth_of.ensures.depth c.depth_of.ensures.fits c.requires.low c.requires.fits c.len.ensures.len c.top.ensures c.mix_in_length-root.ensures
