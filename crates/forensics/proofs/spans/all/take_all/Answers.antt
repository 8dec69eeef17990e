use Rattle.std.proofs.Common.{refl, arith}
use Rattle.std.proofs.lemmas.Bool.{false≢true}
use Rattle.forensics.proofs.Takes.{none_taken, stand_more}
use Rattle.forensics.proofs.Rooms.{grows_none, grows_more, grows_on, room_left}
use Rattle.forensics.proofs.spans.all.take_all.Goals as goal

pub loop-validator-init : goal.loop-validator-init
loop-validator-init g c = record { sorted_all = c.requires.sorted_all; grows = grows_none _ _; stand = λ votes low all. none_taken _ _ votes c.args.attesters.now _ all }

pub loop-validator-preserved : goal.loop-validator-preserved
loop-validator-preserved g c = record {
  sorted_all = c.take_one.ensures.sorted_all;
  grows = grows_more _ _ _ (omega arith) refl _ _ _ c.loop-validator.invariant.grows c.take_one.ensures.grows;
  stand = λ votes low all. stand_more _ _ _ votes _ _ _ _ refl (omega arith) c.requires.vote low (c.loop-validator.invariant.stand votes low all) c.in_ok-take_one.ensures.taken;
}

pub returns-in_err-take_one-clause-grows : goal.returns-in_err-take_one-clause-grows
returns-in_err-take_one-clause-grows g c = grows_on _ _ c.args.attesters.now c.loop-validator.validator-index _ _ (omega arith) refl c.loop-validator.invariant.grows c.take_one.ensures.grows

pub returns-in_err-take_one-clause-spare : goal.returns-in_err-take_one-clause-spare
returns-in_err-take_one-clause-spare g c = λ has. absurd (false≢true (c.in_err-take_one.ensures.spare (room_left c.args.attesters.now c.loop-validator.validator-index _ (omega arith) refl _ _ c.loop-validator.invariant.grows has)))
