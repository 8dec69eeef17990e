-- The committees of the slot, and then its proposer.
use Rattle.std.proofs.lemmas.Result.{err_from_is_err_and}
use Rattle.one_chain.specs.inside.Duties.{table_lines}
use Rattle.one_chain.proofs.Texts.{written_then, first_partly}
use Rattle.one_chain.proofs.duty_lines.write_slot.Goals as goal

pub returns-in_err-write_committees : goal.returns-in_err-write_committees
unfolding table_lines
returns-in_err-write_committees g c =
    let p = err_from_is_err_and c.from_residual.result c.from_residual.ensures.1 in
    rw (p.1, p.2) (first_partly _ _ c.in_err-write_committees.field-0.0 c.in_err-write_committees.ensures)

pub returns : goal.returns
unfolding table_lines
returns g c = written_then _ _ c.in_ok-write_committees.field-0 c.write_proposers.result c.in_ok-write_committees.ensures (rw c.deref.ensures.value at c.write_proposers.ensures)
