-- The lines are of what the book finds.
use Rattle.forensics.specs.Books.{history_of}
use Rattle.beacon_node.proofs.Found.{two_are}
use Rattle.beacon_node.proofs.drill.found_lines.Goals as goal

pub returns : goal.returns
returns c =
    rw (← two_are c.args.book.now.genesis (record { store = c.args.first.now.plain; history = history_of c.args.book.now 0 }) (record { store = c.args.second.now.plain; history = history_of c.args.book.now 1 }) c.in_ok-findings.findings c.in_ok-findings.ensures)
    c.two_lines.ensures
