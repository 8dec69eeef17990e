use Rattle.hash_tree.proofs.Lanes.{below_eight}
use Rattle.hash_tree.proofs.sources.page_ends.Goals as goal

pub returns : goal.returns
returns c =
    below_eight _ c.page_end.ensures c.page_end-2.ensures c.page_end-3.ensures c.page_end-4.ensures c.page_end-5.ensures c.page_end-6.ensures c.page_end-7.ensures c.page_end-8.ensures
