-- The offences, and then the verdict.
use Rattle.std.proofs.lemmas.Result.{err_from_is_err_and}
use Rattle.one_chain.proofs.Texts.{written_then, first_partly}
use Rattle.beacon_node.proofs.forensic.write_findings.Goals as goal

pub returns-in_err-write_offences : goal.returns-in_err-write_offences
returns-in_err-write_offences g c =
    let p = err_from_is_err_and c.from_residual.result c.from_residual.ensures.1 in
    rw (p.1, p.2) (first_partly _ _ c.in_err-write_offences.field-0.0 (rw c.deref.ensures.value at c.in_err-write_offences.ensures))

pub returns : goal.returns
returns g c = written_then _ _ c.in_ok-write_offences.field-0 c.write_verdict.result (rw c.deref.ensures.value at c.in_ok-write_offences.ensures) c.write_verdict.ensures
