-- What the command tells is written.
use Rattle.beacon_node.proofs.SlashingRecords.{slashings_conclude, slashings_written}
use Rattle.beacon_node.proofs.forensic.tell.Goals as goal

pub returns-in-Findings-clause-told : goal.returns-in-Findings-clause-told
returns-in-Findings-clause-told g c = rw c.in-Findings.is c.tell_findings.ensures.told

pub returns-in-Findings-clause-reports : goal.returns-in-Findings-clause-reports
returns-in-Findings-clause-reports g c = rw c.in-Findings.is c.tell_findings.ensures.findings

pub returns-in-Slashings-clause-told : goal.returns-in-Slashings-clause-told
returns-in-Slashings-clause-told g c = rw c.in-Slashings.is (slashings_conclude c.args.book.now c.args.first.now.plain c.args.second.now.plain c.tell_slashings.result c.tell_slashings.ensures.told)

pub returns-in-Slashings-clause-reports : goal.returns-in-Slashings-clause-reports
returns-in-Slashings-clause-reports g c =
    rw c.in-Slashings.is (λ is. slashings_written c.args.book.now c.args.first.now.plain c.args.second.now.plain _ _ c.requires.first c.requires.second (c.tell_slashings.ensures.slashings is))
