-- What a call leaves that made room for more, and nothing else.
use Rattle.std.specs.Prelude.{◌≡◌}
use Rattle.bc_preset.specs.declared.configuration.ConfigValues.{ConfigValues}
use Rattle.beacon_types.specs.declared.signed_block.SignedBeaconBlock.{SignedBeaconBlock}
use Rattle.block_array.specs.PlainArray.{PlainArray}
use Rattle.state_keeper.specs.Chain.{Kept}

-- an array is as it was, but for the room in it
abbrev pub ArrayStays : PlainArray → PlainArray → Type 0
ArrayStays old new = new ≡ record old { spare_nodes = new.spare_nodes; spare_validators = new.spare_validators }

-- a keeper is
abbrev pub KeeperStays : Kept ConfigValues SignedBeaconBlock → Kept ConfigValues SignedBeaconBlock → Type 0
KeeperStays old new = new ≡ record old { spare = new.spare }
