-- As many deposits as are due, and no more than a block may bring.
use Rattle.std.proofs.Common.{rules}
use Rattle.spec_blocks.specs.ProcessOperations.{check_deposit_count}
use Rattle.transition.proofs.process_operations.check_deposit_count.Goals as goal

pub returns-then-len-min : goal.returns-then-len-min
unfolding check_deposit_count
returns-then-len-min c = search rules

pub returns : goal.returns
unfolding check_deposit_count
returns c = search rules
