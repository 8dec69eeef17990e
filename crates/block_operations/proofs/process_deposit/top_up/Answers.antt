-- The amount is added to the balance, and the registry stays.
use Rattle.std.proofs.Common.{rules}
use Rattle.spec_blocks.specs.ProcessDeposit.{credit_deposit}
use Rattle.spec_blocks.specs.IncreaseBalance.{increase_balance}
use Rattle.block_operations.proofs.process_deposit.top_up.Goals as goal

pub returns-clause-balance : goal.returns-clause-balance
unfolding credit_deposit increase_balance
returns-clause-balance c = search rules

pub returns-clause-registry : goal.returns-clause-registry
returns-clause-registry c = search rules
