use Rattle.forensics.proofs.Reserved.{sorted_same}
use Rattle.forensics.proofs.spans.all_spans.AllSpans.reserve.Goals as goal

pub invariant_of-self-2 : goal.invariant_of-self-2
invariant_of-self-2 c = sorted_same _ _ _ _ c.reserve.ensures.items c.reserve_all.ensures.same c.self.invariant
