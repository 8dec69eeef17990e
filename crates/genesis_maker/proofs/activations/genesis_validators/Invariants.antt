use Rattle.std.proofs.Common.{◌≡◌, ◌++◌}
use Rattle.spec_genesis.specs.InitializeBeaconStateFromEth1.{genesis_validators}
use Rattle.genesis_maker.proofs.activations.genesis_validators.Given as goal

abbrev pub invariant-loop-validator : goal.invariant-loop-validator
invariant-loop-validator l = l.all.items ++ genesis_validators l.state.preset l.validator-iterator l.balances ≡ genesis_validators l.state.preset l.state.validators l.state.balances
