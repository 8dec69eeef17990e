-- The law as it stands.
use Rattle.beacon_node.proofs.InMemory.{in_memory}
use Rattle.beacon_node.proofs.run_laws.runs_in_memory.Goals as goal

pub returns : goal.returns
returns c = in_memory
