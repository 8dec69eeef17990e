-- One slot after the other.
use Rattle.std.proofs.lemmas.Result.{err_from_is_err_and}
use Rattle.one_chain.specs.inside.Duties.{table_lines}
use Rattle.one_chain.proofs.DutyLines.{first_of}
use Rattle.one_chain.proofs.Texts.{written_more, written_partly}
use Rattle.one_chain.proofs.duty_lines.write_duties.Goals as goal

pub loop-slot-preserved : goal.loop-slot-preserved
loop-slot-preserved g c =
    written_more _ _ _ c.in_ok-write_slot.field-0 (rw (first_of (table_lines c.args.duties.now) c.loop-slot.slot _ c.loop-slot-test.true) at c.loop-slot.invariant) c.in_ok-write_slot.ensures

pub returns-in_err-write_slot : goal.returns-in_err-write_slot
returns-in_err-write_slot g c =
    let p = err_from_is_err_and c.from_residual.result c.from_residual.ensures.1 in
    rw (p.1, p.2) (written_partly _ _ _ c.in_err-write_slot.field-0.0 (rw (first_of (table_lines c.args.duties.now) c.loop-slot.slot _ c.loop-slot-test.true) at c.loop-slot.invariant) c.in_err-write_slot.ensures)
