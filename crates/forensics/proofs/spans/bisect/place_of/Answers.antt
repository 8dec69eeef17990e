use Rattle.std.proofs.Common.{arith}
use Rattle.forensics.proofs.Bisecting.{goes_up, goes_down, one_taken, ends}
use Rattle.forensics.proofs.spans.bisect.place_of.Goals as goal

pub loop-low-preserved-then-target_of-target : goal.loop-low-preserved-then-target_of-target
loop-low-preserved-then-target_of-target g c =
    let e = c.target_of.ensures in
    let less = c.loop-low-test.true in
    record {
      between = goes_up _ _ _ _ _ c.requires c.loop-low.invariant.between _ (omega arith) (omega arith) (omega arith);
      left = one_taken _ _ _ _ _ _ c.tick.ensures (omega arith) (omega arith) c.loop-low.invariant.left;
    }

pub loop-low-preserved : goal.loop-low-preserved
loop-low-preserved g c =
    let e = c.target_of.ensures in
    let less = c.loop-low-test.true in
    record {
      between = goes_down _ _ _ _ _ c.requires c.loop-low.invariant.between _ (omega arith) (omega arith) (omega arith);
      left = one_taken _ _ _ _ _ _ c.tick.ensures (omega arith) (omega arith) c.loop-low.invariant.left;
    }

pub returns-clause-place : goal.returns-clause-place
returns-clause-place g c = ends _ _ _ _ _ c.requires c.loop-low.invariant.between c.loop-low-test.false
