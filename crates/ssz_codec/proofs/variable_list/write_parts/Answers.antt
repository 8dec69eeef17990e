use Rattle.ssz_codec.proofs.Halves.{part_written, parts_written}
use Rattle.ssz_codec.proofs.variable_list.write_parts.Goals as goal

pub loop-value-preserved : goal.loop-value-preserved
loop-value-preserved g c =
    rw c.in-Ok.ensures
    (part_written g.T.Ssz.codec.serialize c.args.values.now c.loop-value.value-index _ c.value-item.result c.loop-value.parts _ c.loop-value-test.true c.value-item.is c.loop-value.invariant)

pub returns : goal.returns
returns g c = parts_written g.T.Ssz.codec.serialize c.args.values.now c.loop-value.value-index c.loop-value.parts _ c.loop-value-test.false c.loop-value.invariant
