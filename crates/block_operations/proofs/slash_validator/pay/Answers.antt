use Rattle.std.proofs.Common.{rules}
use Rattle.block_operations.specs.inside.Paid.{paid}
use Rattle.block_operations.proofs.slash_validator.pay.Goals as goal

pub returns : goal.returns
unfolding paid
returns c = search rules
