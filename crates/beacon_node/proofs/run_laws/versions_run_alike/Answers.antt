-- The law as it stands.
use Rattle.beacon_node.proofs.Versions as proofs
use Rattle.beacon_node.proofs.run_laws.versions_run_alike.Goals as goal

pub returns : goal.returns
returns c = proofs.versions_run_alike
