use Rattle.std.proofs.Common.{◌≡◌, ◌+◌}
use Rattle.spec_blocks.specs.InitiateValidatorExit.{exit_queue_churn}
use Rattle.block_operations.proofs.initiate_validator_exit.exit_queue_churn.Given as goal

abbrev pub invariant-loop-validator : goal.invariant-loop-validator
invariant-loop-validator l = l.count + exit_queue_churn l.validator-iterator l.epoch ≡ exit_queue_churn l.state.validators l.epoch
