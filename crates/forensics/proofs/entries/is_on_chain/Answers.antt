use Rattle.std.proofs.Common.{arith}
use Rattle.forensics.proofs.Chained.{reach_stops, reach_goes, reach_passes, reach_ends}
use Rattle.forensics.proofs.entries.is_on_chain.Goals as goal

pub returns-then-has_root-2 : goal.returns-then-has_root-2
returns-then-has_root-2 c = reach_stops c.args.entries.now c.loop-i.i _ (omega (arith, c.loop-i-test.true)) c.loop-i.auto.i c.args.genesis_root.now c.args.ancestor.now c.loop-i.root _ c.loop-i.invariant
    c.has_root.result c.has_root-then-has_root.result c.has_root.ensures c.if-has_root.true c.has_root-then-has_root.ensures c.if-has_root-2.true

pub loop-i-preserved-then-has_root : goal.loop-i-preserved-then-has_root
loop-i-preserved-then-has_root c = reach_goes c.args.entries.now c.loop-i.i _ (omega (arith, c.loop-i-test.true)) c.loop-i.auto.i c.args.genesis_root.now c.args.ancestor.now c.loop-i.root _ c.loop-i.invariant
    c.has_root.result c.has_root-then-has_root.result c.has_root.ensures c.if-has_root.true c.has_root-then-has_root.ensures c.if-has_root-2.false

pub loop-i-preserved : goal.loop-i-preserved
loop-i-preserved c = reach_passes c.args.entries.now c.loop-i.i _ (omega (arith, c.loop-i-test.true)) c.loop-i.auto.i c.args.genesis_root.now c.args.ancestor.now c.loop-i.root _ c.loop-i.invariant c.has_root.result c.has_root.ensures c.if-has_root.false

pub returns : goal.returns
returns c = reach_ends c.args.entries.now c.loop-i.i c.args.genesis_root.now c.args.ancestor.now c.loop-i.root _ c.eq.result (omega (arith, c.loop-i-test.false)) c.loop-i.invariant c.eq.ensures
