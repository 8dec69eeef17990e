use Rattle.std.proofs.Common.{refl, arith}
use Rattle.forensics.proofs.Reserved.{same_yet, same_on, nobody_reserved, next_reserved}
use Rattle.forensics.proofs.spans.reserve.reserve_list.Goals as goal

pub loop-validator-init : goal.loop-validator-init
loop-validator-init c = record { same = same_yet _; room = nobody_reserved _ _ }

pub loop-validator-preserved : goal.loop-validator-preserved
loop-validator-preserved c = record {
  same = same_on _ _ _ c.loop-validator.invariant.same c.reserve_one.ensures.same;
  room = next_reserved c.args.attesters.now c.loop-validator.validator-index _ (omega arith) refl _ _ _ c.reserve_one.ensures.same c.loop-validator.invariant.room c.in_ok-reserve_one.ensures.room;
}

pub returns-in_err-reserve_one-clause-same : goal.returns-in_err-reserve_one-clause-same
returns-in_err-reserve_one-clause-same c = same_on _ _ _ c.loop-validator.invariant.same c.reserve_one.ensures.same
