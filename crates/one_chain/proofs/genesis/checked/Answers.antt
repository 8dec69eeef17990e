-- The check accepts the state, or says its first fault.
use Rattle.std.proofs.Common.{ap}
use Rattle.spec_state.specs.Genesis.{sound_genesis}
use Rattle.one_chain.proofs.genesis.checked.Goals as goal

pub returns-in-Err-clause-gives : goal.returns-in-Err-clause-gives
returns-in-Err-clause-gives c = ap (sound_genesis c.args.state) c.in-Err.ensures

pub returns-in-Err-clause-checked : goal.returns-in-Err-clause-checked
returns-in-Err-clause-checked c = tt
