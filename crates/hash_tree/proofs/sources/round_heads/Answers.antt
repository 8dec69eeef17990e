use Rattle.hash_tree.proofs.Lanes.{below_eight}
use Rattle.hash_tree.proofs.sources.round_heads.Goals as goal

pub returns : goal.returns
returns c =
    below_eight _ c.round_head.ensures c.round_head-2.ensures c.round_head-3.ensures c.round_head-4.ensures c.round_head-5.ensures c.round_head-6.ensures c.round_head-7.ensures c.round_head-8.ensures
