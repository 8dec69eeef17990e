-- That the states of checkpoints that are kept are those of their checkpoints.
use Rattle.std.specs.Prelude.{◌≡◌, List, []}
use Rattle.std.specs.List.{AllByRecursion}
use Rattle.bc_words.specs.Outcome.{done}
use Rattle.bc_preset.specs.declared.configuration.ConfigValues.{ConfigValues}
use Rattle.spec_state.specs.Genesis.{zero_root}
use Rattle.spec_state.specs.Soundness.{IsSound}
use Rattle.spec_fork_choice.specs.Store.{KeptBlock, Store}
use Rattle.spec_fork_choice.specs.StoreTargetCheckpointState.{store_target_checkpoint_state}
use Rattle.fork_store.specs.inside.Kept.{CheckpointState}
use Rattle.fork_store.specs.inside.Openings.{as_opened}

-- A state is the one of its checkpoint in a store, sound and of the store's preset
pub record IsStateOf (store : Store) (kept : CheckpointState) : Type 0 where
  pub same : store_target_checkpoint_state store kept.checkpoint ≡ done kept.state
  pub sound : IsSound kept.state
  pub preset : kept.state.preset ≡ store.config.preset

-- a store of a configuration with some blocks: the state of a checkpoint is made of nothing else that a store has
abbrev pub store_with : ConfigValues → List KeptBlock → Store
store_with config blocks = as_opened config 0 0 (record { epoch = 0; root = zero_root }) blocks []

-- all kept states are those of their checkpoints
abbrev pub AreStatesOf : ConfigValues → List KeptBlock → List CheckpointState → Type 0
AreStatesOf config blocks states = AllByRecursion (IsStateOf (store_with config blocks)) states
