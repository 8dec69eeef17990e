use Rattle.std.proofs.Common.{◌≡◌, [], take, drop}
use Rattle.block_operations.specs.Indexes.{Indexes}
use Rattle.spec_genesis.specs.Branches.{deposit_leaves}
use Rattle.spec_genesis.specs.InitializeBeaconStateFromEth1.{process_genesis_deposits}
use Rattle.genesis_maker.proofs.initialize_beacon_state_from_eth1.process_deposits.Given as goal

-- so many deposits were taken, and the others lead where all lead
abbrev pub invariant-loop-index : goal.invariant-loop-index
invariant-loop-index l = record {
  rest : l.deposits ≡ drop l.index l.fn.deposits;
  tree : l.making.tree ≡ deposit_leaves (take l.index l.fn.deposits);
  keys : Indexes l.making.keys l.making.state.validators;
  same : process_genesis_deposits l.making.state (take l.index l.fn.deposits) l.deposits ≡ process_genesis_deposits l.fn.making.state [] l.fn.deposits;
}
