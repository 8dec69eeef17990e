-- What a file of deposits makes is a genesis file.
use Rattle.std.proofs.Common.{ℕ, List, Result, Ok, Err, subst}
use Rattle.std.specs.Prelude.{IfOk}
use Rattle.bc_preset.specs.declared.presets.Preset.{Preset}
use Rattle.spec_state.specs.declared.plain.PlainState.{PlainState}
use Rattle.spec_state.specs.States.{state_codec}
use Rattle.spec_genesis.specs.declared.fault.DepositsFault.{DepositsFault}
use Rattle.spec_genesis.specs.MadeGenesis.{HoldsGenesis, MakesGenesis}
use Rattle.genesis_maker.specs.declared.stops.DepositsStop.{DepositsStop}
use Rattle.genesis_maker.specs.inside.Making.{GivesFile}

pub holds_by : (p : Preset) (r : Result PlainState DepositsStop) (file : Result (List ℕ) DepositsFault) → GivesFile r file → MakesGenesis p file → IfOk r (λ state. HoldsGenesis p ((state_codec state.preset).serialize state))
holds_by p (Ok state) file gives makes = subst (MakesGenesis p) gives makes
holds_by p (Err stop) file gives makes = tt
