use Rattle.std.proofs.Common.{ℕ, ◌-◌, ap, arith, length, length-drop, take, take_all}
use Rattle.bc_outside.proofs.Keeping.{sink_keeps_then}
use Rattle.bc_outside.proofs.Taking.{wrote_more}
use Rattle.bc_outside.proofs.whole.write_all.Goals as goal

pub loop-written-preserved : goal.loop-written-preserved
loop-written-preserved g c = record {
  within = omega (arith, length-drop {A = ℕ}, c.in-Ok.ensures.writes.within);
  told = wrote_more c.args.bytes.now _ _ _ _ c.loop-written.written c.in-Ok.n (ap (take c.in-Ok.n) (take_all (length c.args.bytes.now - c.loop-written.written) _ (omega (arith, length-drop {A = ℕ})))) c.loop-written.invariant.told c.in-Ok.ensures.writes.taken;
  keeps = sink_keeps_then c.loop-written.invariant.keeps c.in-Ok.ensures.keeps;
}

pub returns-in-Err-clause-keeps : goal.returns-in-Err-clause-keeps
returns-in-Err-clause-keeps g c = sink_keeps_then c.loop-written.invariant.keeps c.in-Err.ensures.keeps
