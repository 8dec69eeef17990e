-- The end of the queue takes one more where fewer leave there than the churn limit.
use Rattle.std.proofs.Common.{rules}
use Rattle.spec_blocks.specs.InitiateValidatorExit.{exit_queue_epoch}
use Rattle.block_operations.specs.inside.Queue.{queue_end}
use Rattle.block_operations.proofs.initiate_validator_exit.exit_queue_epoch.Goals as goal

pub returns-then-exit_queue_churn-churn_limit : goal.returns-then-exit_queue_churn-churn_limit
unfolding exit_queue_epoch queue_end
returns-then-exit_queue_churn-churn_limit c = search rules
