use Rattle.std.proofs.Common.{true, [], ap, refl, arith, length}
use Rattle.bc_outside.proofs.Keeping.{keeps_none, keeps_then}
use Rattle.bc_outside.proofs.Keeping.{takes_length}
use Rattle.record_file.proofs.Fetching.{fetched_none, fetched_stays, fetched_then, fetched_once_more, fetched_once_end}
use Rattle.record_file.proofs.fill.fill.Goals as goal

pub loop-buffer-init : goal.loop-buffer-init
loop-buffer-init g c = record { fetched = fetched_none c.args.file c.args.buffer.now (g.F.Shelf.told c.args.shelf.now); keeps = keeps_none (g.F.Shelf.told c.args.shelf.now) }

pub more-requires : goal.more-requires
more-requires g c = rw (takes_length c.loop-buffer.invariant.fetched.taken) c.requires

pub returns-in-Err-clause-fills : goal.returns-in-Err-clause-fills
returns-in-Err-clause-fills g c =
    let f = c.in-Err.ensures.fetches in
    (fetched_then c.loop-buffer.invariant.fetched (fetched_stays c.args.file f.0 f.1), omega (arith, ap length f.0, ap length c.as_slice.ensures))

pub returns-in-Err-clause-keeps : goal.returns-in-Err-clause-keeps
returns-in-Err-clause-keeps g c = keeps_then [] [] c.loop-buffer.invariant.keeps c.more.ensures.keeps

pub returns-then-not-came-clause-fills : goal.returns-then-not-came-clause-fills
returns-then-not-came-clause-fills g c =
    let f = c.in-Ok.ensures.fetches in
    let same = f.2 c.if-not-came.true in
    (true, fetched_once_end c.args.file c.in-Ok.came c.if-not-came.true c.loop-buffer.invariant.fetched f.0, λ _. refl, λ _. omega (arith, ap length same, ap length c.as_slice.ensures))

pub returns-then-not-came-clause-keeps : goal.returns-then-not-came-clause-keeps
returns-then-not-came-clause-keeps g c = keeps_then [] [] c.loop-buffer.invariant.keeps c.more.ensures.keeps

pub loop-buffer-preserved : goal.loop-buffer-preserved
loop-buffer-preserved g c = record {
  fetched = fetched_once_more c.args.file c.in-Ok.came c.if-not-came.false c.loop-buffer.invariant.fetched c.in-Ok.ensures.fetches.0;
  keeps = keeps_then [] [] c.loop-buffer.invariant.keeps c.more.ensures.keeps;
}
