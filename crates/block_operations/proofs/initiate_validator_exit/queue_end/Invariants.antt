use Rattle.std.proofs.Common.{◌≡◌}
use Rattle.block_operations.specs.inside.Queue.{queue_end}
use Rattle.block_operations.proofs.initiate_validator_exit.queue_end.Given as goal

abbrev pub invariant-loop-validator : goal.invariant-loop-validator
invariant-loop-validator l = queue_end l.validator-iterator l.epoch ≡ queue_end l.state.validators l.earliest
