-- One committee after the other.
use Rattle.std.proofs.lemmas.Result.{err_from_is_err_and}
use Rattle.one_chain.proofs.DutyLines.{first_committee}
use Rattle.one_chain.proofs.Texts.{written_more, written_partly}
use Rattle.one_chain.proofs.duty_lines.write_committees.Goals as goal

pub loop-index-preserved : goal.loop-index-preserved
loop-index-preserved g c =
    written_more _ _ _ c.in_ok-write_committee.field-0 (rw (first_committee c.args.committees.now c.args.slot c.loop-index.index _ c.loop-index-test.true) at c.loop-index.invariant)
    (rw c.members_of.ensures at c.in_ok-write_committee.ensures)

pub returns-in_err-write_committee : goal.returns-in_err-write_committee
returns-in_err-write_committee g c =
    let p = err_from_is_err_and c.from_residual.result c.from_residual.ensures.1 in
    rw (p.1, p.2) (written_partly _ _ _ c.in_err-write_committee.field-0.0 (rw (first_committee c.args.committees.now c.args.slot c.loop-index.index _ c.loop-index-test.true) at c.loop-index.invariant)
    (rw c.members_of.ensures at c.in_err-write_committee.ensures))
