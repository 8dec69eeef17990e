-- More than half of the votes win.
use Rattle.std.proofs.Common.{rules}
use Rattle.block_operations.proofs.process_eth1_data.has_won.Goals as goal

pub returns : goal.returns
returns c = search rules
