-- What the events of a made chain rely on of the store that takes them.
use Rattle.std.specs.Prelude.{◌≡◌, Option, Some, None}
use Rattle.spec_state.specs.Genesis.{header_root_of}
use Rattle.spec_fork_choice.specs.Store.{Store}
use Rattle.spec_drill.specs.Maker.{PlainMaker}
use Rattle.chain_maker.specs.declared.given.SteppedBlock.{SteppedBlock}
use Rattle.fork_store.specs.KeptStates.{IsStepOfKept, KeepsState}

-- the store has the plan's configuration, and keeps the state behind the chain's last block
pub record Keeps (store : Store) (maker : PlainMaker) : Type 0 where
  pub config : store.config ≡ maker.plan.config
  pub state : KeepsState store (header_root_of maker.state) maker.state

-- a block that was given last comes with its step from a state that the store keeps, and the maker stands behind it
pub record IsLent (store : Store) (maker : PlainMaker) (stepped : SteppedBlock) : Type 0 where
  pub config : store.config ≡ maker.plan.config
  pub step : IsStepOfKept store stepped.block.message stepped.step
  pub state : maker.state ≡ stepped.step.state

abbrev pub Lends : Store → PlainMaker → Option SteppedBlock → Type 0
Lends store maker None = Keeps store maker
Lends store maker (Some stepped) = IsLent store maker stepped
