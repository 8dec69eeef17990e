-- It waits with the delay and the proposer that are given.
use Rattle.std.proofs.Common.{rules}
use Rattle.block_operations.proofs.pending.pending_of.Goals as goal

pub returns : goal.returns
returns c = search rules
