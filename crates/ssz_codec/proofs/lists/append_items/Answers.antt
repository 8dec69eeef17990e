use Rattle.std.proofs.Common.{◌∙◌}
use Rattle.ssz_codec.proofs.Written.{stays, value_written, values_written}
use Rattle.ssz_codec.proofs.lists.append_items.Goals as goal

pub returns-in-Err-clause-err : goal.returns-in-Err-clause-err
returns-in-Err-clause-err g c = stays c.args.out.now _ c.write_to.new.out (c.in-Err.ensures.err ∙ c.loop-value.invariant)

pub loop-value-preserved : goal.loop-value-preserved
loop-value-preserved g c =
    value_written g.T.Ssz.codec.serialize c.args.values.now c.loop-value.value-index c.value-item.result c.value-item.result c.args.out.now c.loop-value.out c.write_to.new.out c.loop-value-test.true c.value-item.is c.loop-value.invariant c.in-Ok.ensures.ok

pub returns-clause-ok : goal.returns-clause-ok
returns-clause-ok g c = values_written g.T.Ssz.codec.serialize c.args.values.now c.loop-value.value-index c.args.out.now c.loop-value.out c.loop-value-test.false c.loop-value.invariant
