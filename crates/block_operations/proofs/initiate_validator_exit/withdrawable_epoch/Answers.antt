-- The delay is the configuration's.
use Rattle.std.proofs.Common.{rules}
use Rattle.block_operations.proofs.initiate_validator_exit.withdrawable_epoch.Goals as goal

pub returns : goal.returns
returns c = search rules
