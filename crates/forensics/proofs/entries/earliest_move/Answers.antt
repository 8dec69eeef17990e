use Rattle.std.proofs.Common.{arith}
use Rattle.forensics.proofs.Chained.{earliest_goes, earliest_passes, earliest_ends}
use Rattle.forensics.proofs.entries.earliest_move.Goals as goal

pub loop-i-preserved-then-has_root : goal.loop-i-preserved-then-has_root
loop-i-preserved-then-has_root c = earliest_goes c.args.entries.now c.loop-i.i _ (omega (arith, c.loop-i-test.true)) c.loop-i.auto.i c.loop-i.root c.loop-i.found _ c.loop-i.invariant c.has_root.result c.move_or-found.result c.has_root.ensures c.if-has_root.true c.move_or-found.ensures

pub loop-i-preserved : goal.loop-i-preserved
loop-i-preserved c = earliest_passes c.args.entries.now c.loop-i.i _ (omega (arith, c.loop-i-test.true)) c.loop-i.auto.i c.loop-i.root c.loop-i.found _ c.loop-i.invariant c.has_root.result c.has_root.ensures c.if-has_root.false

pub returns : goal.returns
returns c = earliest_ends c.args.entries.now c.loop-i.i c.loop-i.root c.loop-i.found _ (omega (arith, c.loop-i-test.false)) c.loop-i.invariant
