use Rattle.hash_tree.proofs.Lanes.{below_eight}
use Rattle.hash_tree.proofs.sources.source_heads.Goals as goal

pub returns : goal.returns
returns c =
    below_eight _ c.source_head.ensures c.source_head-2.ensures c.source_head-3.ensures c.source_head-4.ensures c.source_head-5.ensures c.source_head-6.ensures c.source_head-7.ensures c.source_head-8.ensures
