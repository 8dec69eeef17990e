-- The source of a vote for the previous epoch is that epoch's justified checkpoint.
use Rattle.std.proofs.Common.{rules}
use Rattle.block_operations.proofs.pending.is_previous_source.Goals as goal

pub returns : goal.returns
returns c = search rules
