use Rattle.std.proofs.Common.{ap, length, arith}
use Rattle.spec_genesis.proofs.MadeState.{validators_count}
use Rattle.genesis_maker.proofs.activations.activate.Goals as goal

-- there are as many
pub set_validators-requires : goal.set_validators-requires
set_validators-requires c =
    omega (arith, ap length c.in_ok-validators.ensures, validators_count c.args.state.now.preset c.args.state.now.validators c.args.state.now.balances, c.validators_len-count.ensures.len, c.validators_len-count.ensures.limit)
