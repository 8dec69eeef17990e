use Rattle.std.proofs.lemmas.List.Filters.{dedup_is}
use Rattle.forensics.proofs.Sorting.{sorted_once}
use Rattle.forensics.proofs.indices.in_order.Goals as goal

pub returns : goal.returns
returns c = sorted_once _ _ _ c.sort_unstable.ensures.permutation c.sort_unstable.ensures.sorted (dedup_is _ _ _ c.dedup.ensures.filtered)
