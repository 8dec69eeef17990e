-- Memory ran out before the state was written.
use Rattle.std.proofs.Common.{Ok}
use Rattle.one_chain.proofs.MakingGenesis.{cut_off, none_made}
use Rattle.genesis_maker.specs.declared.stops.DepositsStop.TheVariants as stops
use Rattle.one_chain.proofs.make_genesis.write_state.Goals as goal

pub returns-in-Err-clause-ends : goal.returns-in-Err-clause-ends
returns-in-Err-clause-ends g c = cut_off (Ok _) _

pub returns-in-Err-clause-outside : goal.returns-in-Err-clause-outside
returns-in-Err-clause-outside g c = none_made stops.NoMemory _
