-- An epoch that isn't set doesn't count.
use Rattle.std.proofs.Common.{rules, tests}
use Rattle.block_operations.proofs.initiate_validator_exit.later.Goals as goal

pub returns-then-exit_epoch-eq-FAR_FUTURE_EPOCH : goal.returns-then-exit_epoch-eq-FAR_FUTURE_EPOCH
returns-then-exit_epoch-eq-FAR_FUTURE_EPOCH c = search (rules, tests)
