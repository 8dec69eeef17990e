-- The root of the numbers' tree.
use Rattle.std.proofs.Common.{ap, ◌∙◌}
use Rattle.shared_tree.specs.Lists.{Limited}
use Rattle.shared_tree.specs.inside.Fours.{numbers_in}
use Rattle.shared_tree.proofs.Packs.{numbers_top, top_of}
use Rattle.shared_tree.proofs.packed_list.PackedList.top.Goals as goal

pub returns : goal.returns
returns c =
    numbers_top c.self.inside.tree (numbers_in c.self.inside.len c.self.inside.tree.1) c.self.inside.limit c.self.inside.tree.0 c.top.result c.self.invariant.packs c.self.invariant.depth_is c.top.ensures
    ∙ ap (λ (l : Limited _). top_of l) c.self.view_is
