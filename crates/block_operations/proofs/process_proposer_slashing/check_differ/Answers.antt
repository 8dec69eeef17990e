-- Two headers that are equal show nothing.
use Rattle.std.proofs.Common.{rules}
use Rattle.block_operations.proofs.process_proposer_slashing.check_differ.Goals as goal

pub returns : goal.returns
returns c = search rules
