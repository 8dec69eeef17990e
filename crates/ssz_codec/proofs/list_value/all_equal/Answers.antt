use Rattle.std.proofs.Common.{refl}
use Rattle.ssz_codec.proofs.Equal.{lengths_differ, values_differ, one_more_equal, all_same}
use Rattle.ssz_codec.proofs.list_value.all_equal.Goals as goal

pub returns-then-a-b : goal.returns-then-a-b
returns-then-a-b g c = lengths_differ c.args.a.now c.args.b.now c.if-a-b.true

pub returns-then-not-same : goal.returns-then-not-same
returns-then-not-same g c =
    values_differ c.args.a.now c.args.b.now c.loop-i.i c.index-a-i.result c.index-b-i.result c.index-a-i.is c.index-b-i.is c.loop-i-test.true c.if-not-same.ensures.1

pub loop-i-preserved : goal.loop-i-preserved
loop-i-preserved g c =
    one_more_equal c.args.a.now c.args.b.now c.loop-i.i c.index-a-i.result c.index-b-i.result c.index-a-i.is c.index-b-i.is c.loop-i-test.true c.if-a-b.false (c.if-not-same.ensures.0 refl) c.loop-i.invariant

pub returns : goal.returns
returns g c = all_same c.args.a.now c.args.b.now c.loop-i.i c.loop-i-test.false c.if-a-b.false c.loop-i.invariant
