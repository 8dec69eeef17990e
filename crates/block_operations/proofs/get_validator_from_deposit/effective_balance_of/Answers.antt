-- What is more than whole increments doesn't count.
use Rattle.std.proofs.Common.{rules}
use Rattle.block_operations.proofs.get_validator_from_deposit.effective_balance_of.Goals as goal

pub returns : goal.returns
returns c = search rules
