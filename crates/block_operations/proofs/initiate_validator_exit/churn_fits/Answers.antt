-- The registry is within its limit.
use Rattle.std.proofs.Common.{ap, arith}
use Rattle.block_operations.proofs.Queue.{churn_few}
use Rattle.block_operations.proofs.initiate_validator_exit.churn_fits.Goals as goal

pub returns : goal.returns
returns c =
    omega (arith, churn_few c.args.state.now.validators c.args.epoch, ap (λ p. p.validator_registry_limit) c.preset.ensures.same, c.bounds.ensures.validator_registry_limit, c.validators_len-count.ensures.limit, c.validators_len-count.ensures.len)
