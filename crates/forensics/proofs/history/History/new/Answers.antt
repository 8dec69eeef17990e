use Rattle.forensics.proofs.Carriers.{kept_first}
use Rattle.forensics.proofs.Chained.{none_kept}
use Rattle.forensics.proofs.history.History.new.Goals as goal

pub invariant_of-result : goal.invariant_of-result
invariant_of-result c = kept_first _ _ _ _ c.new.ensures c.new-3.ensures.items (none_kept _ _ _ c.new.ensures c.new-2.ensures.items)
