use Rattle.forensics.proofs.Chained.{finalize_here, finalize_goes}
use Rattle.forensics.proofs.entries.finalizing_root.Goals as goal

pub returns-then-same_checkpoint : goal.returns-then-same_checkpoint
returns-then-same_checkpoint c = finalize_here c.args.entries.now c.loop-place.place _ c.args.finalized.now _ c.loop-place-test.true c.loop-place.invariant c.same_checkpoint.result c.same_checkpoint.ensures c.if-same_checkpoint.true

pub loop-place-preserved : goal.loop-place-preserved
loop-place-preserved c = finalize_goes c.args.entries.now c.loop-place.place _ c.args.finalized.now _ c.loop-place-test.true c.loop-place.invariant c.same_checkpoint.result c.same_checkpoint.ensures c.if-same_checkpoint.false
