-- What contracts see of a store: the plain store, and beside it the array of nodes by which it is weighed and the keeper of its
-- states.
use Rattle.std.specs.Prelude.{◌≡◌}
use Rattle.bc_preset.specs.declared.configuration.ConfigValues.{ConfigValues}
use Rattle.beacon_types.specs.declared.signed_block.SignedBeaconBlock.{SignedBeaconBlock}
use Rattle.spec_fork_choice.specs.Store.{Store}
use Rattle.block_array.specs.PlainArray.{PlainArray}
use Rattle.state_keeper.specs.Chain.{Kept}
use Rattle.fork_store.specs.Stays.{ArrayStays, KeeperStays}

pub record Seen : Type 0 where
  pub plain : Store
  pub array : PlainArray
  pub keeper : Kept ConfigValues SignedBeaconBlock

-- a store is as it was, but for room that its array and its keeper made for more
pub record StoreStays (old new : Seen) : Type 0 where
  pub plain : new.plain ≡ old.plain
  pub array : ArrayStays old.array new.array
  pub keeper : KeeperStays old.keeper new.keeper
