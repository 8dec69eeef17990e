use Rattle.std.proofs.Common.{ℕ, [], refl, ap, arith, zero-le, length, length-append, length-take}
use Rattle.std.proofs.lemmas.Grind.{common_steps}
use Rattle.bc_outside.proofs.Keeping.{keeps_none, keeps_then, takes_length}
use Rattle.bc_outside.proofs.Taking.{takes_none, takes_some_more, read_to_end, read_on}
use Rattle.bc_outside.proofs.whole.read_pieces.Goals as goal

pub loop-bytes-init : goal.loop-bytes-init
loop-bytes-init g c = record {
  within = rw c.requires.none zero-le;
  room = refl;
  taken = rw c.requires.none (takes_none c.args.file (g.F.Shelf.told c.args.shelf.now));
  keeps = keeps_none (g.F.Shelf.told c.args.shelf.now);
}

pub read_more-requires : goal.read_more-requires
read_more-requires g c = rw (takes_length c.loop-bytes.invariant.taken) c.requires.file

pub returns-in-Err-clause-reads : goal.returns-in-Err-clause-reads
returns-in-Err-clause-reads g c =
    takes_some_more c.args.limit _ c.args.file c.loop-bytes.bytes.items (g.F.Shelf.told c.args.shelf.now) (g.F.Shelf.told c.loop-bytes.shelf) (g.F.Shelf.told c.read_more.new.shelf) c.loop-bytes.invariant.taken (omega (arith, length-take {A = ℕ})) c.in-Err.ensures.err

pub returns-in-Err-clause-keeps : goal.returns-in-Err-clause-keeps
returns-in-Err-clause-keeps g c = keeps_then [] [] c.loop-bytes.invariant.keeps c.read_more.ensures.keeps

pub returns-then-is_over-clause-reads : goal.returns-then-is_over-clause-reads
returns-then-is_over-clause-reads g c =
    read_to_end c.args.limit c.args.file _ _ _ _ c.in-Ok.n c.loop-bytes.invariant.taken c.in-Ok.ensures.taken c.in-Ok.ensures.bytes (omega (arith, ap length c.in-Ok.ensures.bytes, length-append {A = ℕ}, length-take {A = ℕ})) c.if-is_over.true (omega (arith, length-take {A = ℕ}))

pub returns-then-is_over-clause-keeps : goal.returns-then-is_over-clause-keeps
returns-then-is_over-clause-keeps g c = keeps_then [] [] c.loop-bytes.invariant.keeps c.read_more.ensures.keeps

pub loop-bytes-preserved : goal.loop-bytes-preserved
loop-bytes-preserved g c = record {
  within = omega (arith, ap length c.in-Ok.ensures.bytes, length-append {A = ℕ}, length-take {A = ℕ});
  room = grind (arith, common_steps);
  taken = read_on c.args.file _ _ _ _ c.in-Ok.n c.loop-bytes.invariant.taken c.in-Ok.ensures.taken c.in-Ok.ensures.bytes (omega (arith, c.if-is_over.false));
  keeps = keeps_then [] [] c.loop-bytes.invariant.keeps c.read_more.ensures.keeps;
}
