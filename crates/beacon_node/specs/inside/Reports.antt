-- What is written of two records, by what the command tells of them.
use Rattle.std.specs.Prelude.{ℕ, List}
use Rattle.spec_replay.specs.declared.report.Report.{Report}
use Rattle.spec_replay.specs.declared.report.Report.TheVariants.{Findings, Slashings}
use Rattle.beacon_node.specs.Findings.{WritesFindings}
use Rattle.beacon_node.specs.Slashings.{WritesSlashings}

abbrev pub WritesReport : Report → List ℕ → List ℕ → Type 0
WritesReport Findings written written_then = WritesFindings written written_then
WritesReport Slashings written written_then = WritesSlashings written written_then
