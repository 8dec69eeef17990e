-- What holds of a store with its array and the balances that are held ready.
use Rattle.std.specs.Prelude.{◌≡◌, ◌<◌, ◌^◌, false, length, Option, Some}
use Rattle.bc_preset.specs.declared.configuration.ConfigValues.{ConfigValues}
use Rattle.beacon_types.specs.Equality.{same_checkpoint}
use Rattle.beacon_types.specs.declared.checkpoint.Checkpoint.{Checkpoint}
use Rattle.beacon_types.specs.declared.signed_block.SignedBeaconBlock.{SignedBeaconBlock}
use Rattle.block_array.specs.PlainArray.{PlainArray}
use Rattle.spec_fork_choice.specs.Store.{Store}
use Rattle.spec_fork_choice.specs.StoreTargetCheckpointState.{store_target_checkpoint_state}
use Rattle.state_keeper.specs.Chain.{Kept}
use Rattle.fork_store.specs.Keepers.{IsKeeperOf}
use Rattle.fork_store.specs.Arrays.{Balances, balances_of, IsArrayOf}
use Rattle.fork_store.specs.inside.Chains.{IsChained}

-- the balances of a checkpoint's state
abbrev pub balances_for : Store → Checkpoint → Balances
balances_for store checkpoint = balances_of (store_target_checkpoint_state store checkpoint)

-- balances are ready of a checkpoint's state
abbrev pub AreReady : Store → Option Balances → Checkpoint → Type 0
AreReady store ready checkpoint = ready ≡ Some (balances_for store checkpoint)

-- those of the best justified checkpoint are, unless it is the justified one
unfoldable pub IsReady : Store → Option Balances → Type 0
IsReady store ready = same_checkpoint store.best_justified_checkpoint store.justified_checkpoint ≡ false → AreReady store ready store.best_justified_checkpoint

-- the array is the store's, the states of kept blocks name kept blocks alone, and there are fewer than 2^32
pub record IsWhole (store : Store) (array : PlainArray) (ready : Option Balances) : Type 0 where
  pub array_of : IsArrayOf store array
  pub chained : IsChained store
  pub few : length store.blocks < 2 ^ 32
  pub ready_is : IsReady store ready

-- what holds of the four parts of a store together: the array, the chain of states and the ready balances are the store's, and the
-- keeper is
pub record AreParts (store : Store) (array : PlainArray) (keeper : Kept ConfigValues SignedBeaconBlock) (ready : Option Balances) : Type 0 where
  pub whole : IsWhole store array ready
  pub keeper_of : IsKeeperOf store keeper
