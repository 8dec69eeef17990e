use Rattle.state_parts.proofs.Within.{all_taken_more}
use Rattle.state_parts.proofs.values.Values.replace.Goals as goal

pub loop-value-preserved : goal.loop-value-preserved
loop-value-preserved g c =
    all_taken_more g.T.Ssz.codec.Within c.deref-value-items.result.now c.loop-value.value-index _ c.loop-value-test.true c.value-item.is c.loop-value.invariant c.in_range.ensures
