-- The state root is zero.
use Rattle.std.proofs.Common.{rules}
use Rattle.block_operations.proofs.process_block_header.header_of.Goals as goal

pub returns : goal.returns
returns c = search rules
