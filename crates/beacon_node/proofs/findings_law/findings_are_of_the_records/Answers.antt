-- The law as it stands.
use Rattle.beacon_node.proofs.Convictions.{convicts_of_the_records}
use Rattle.beacon_node.proofs.findings_law.findings_are_of_the_records.Goals as goal

pub returns : goal.returns
returns c = convicts_of_the_records
