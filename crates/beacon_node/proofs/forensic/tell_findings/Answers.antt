-- What the book finds is written, or memory ran out.
use Rattle.std.proofs.Common.{◌∙◌, sym}
use Rattle.forensics.specs.Books.{history_of}
use Rattle.beacon_node.proofs.Found.{findings_conclude, findings_written, nothing_concludes}
use Rattle.beacon_node.proofs.forensic.tell_findings.Goals as goal

pub returns-in-Ok-clause-told : goal.returns-in-Ok-clause-told
returns-in-Ok-clause-told g c =
    rw c.written.ensures (findings_conclude c.args.book.now.genesis (record { store = c.args.first.now.plain; history = history_of c.args.book.now 0 }) (record { store = c.args.second.now.plain; history = history_of c.args.book.now 1 }) c.in-Ok.findings c.in-Ok.ensures
    c.write_findings.result _ _ c.write_findings.ensures)

pub returns-in-Ok-clause-findings : goal.returns-in-Ok-clause-findings
returns-in-Ok-clause-findings g c = λ is.
    findings_written c.args.book.now.config c.args.book.now.genesis (history_of c.args.book.now 0) (history_of c.args.book.now 1) c.args.first.now.plain c.args.second.now.plain c.in-Ok.findings c.write_findings.result _ _ c.requires.first c.requires.second
    c.in-Ok.ensures c.write_findings.ensures (sym c.written.ensures ∙ is)

pub returns-in-Err-clause-told : goal.returns-in-Err-clause-told
returns-in-Err-clause-told g c =
    nothing_concludes c.args.book.now.genesis (record { store = c.args.first.now.plain; history = history_of c.args.book.now 0 }) (record { store = c.args.second.now.plain; history = history_of c.args.book.now 1 }) _
