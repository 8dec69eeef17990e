-- The root of a list whose root was not made since an item was set.
use Rattle.std.proofs.Common.{length, map, ap, ◌∙◌}
use Rattle.hash_tree.specs.Merkle.{merkleize, mix_in_length}
use Rattle.shared_tree.specs.Lists.{Limited}
use Rattle.shared_tree.proofs.Keeps.{root_of_top}
use Rattle.shared_tree.proofs.shared_list.SharedList.root.Goals as goal

pub returns-in-None : goal.returns-in-None
returns-in-None g c =
    root_of_top g.T.Leaf.root_of c.self.inside.tree c.self.inside.limit c.len.result c.self.inside.root c.mix_in_length.result c.top.result c.self.invariant c.len.ensures.len c.top.ensures c.mix_in_length.ensures
    ∙ ap (λ (l : Limited _). mix_in_length (merkleize (map g.T.Leaf.root_of l.items) l.limit) (length l.items)) c.self.view_is
