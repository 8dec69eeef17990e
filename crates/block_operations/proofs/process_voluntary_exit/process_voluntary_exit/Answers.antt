-- An exit is early before its epoch.
use Rattle.std.proofs.Common.{rules}
use Rattle.spec_blocks.specs.ProcessVoluntaryExit.{process_voluntary_exit}
use Rattle.block_operations.proofs.process_voluntary_exit.process_voluntary_exit.Goals as goal

pub returns-then-epoch-exit : goal.returns-then-epoch-exit
unfolding process_voluntary_exit
returns-then-epoch-exit c = search rules
