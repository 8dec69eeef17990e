-- A validator of a genesis whose balance may not be there.
use Rattle.std.specs.Prelude.{ℕ, Option, Some, None}
use Rattle.bc_preset.specs.declared.presets.Preset.{Preset}
use Rattle.beacon_types.specs.declared.validator.Validator.{Validator}
use Rattle.spec_genesis.specs.InitializeBeaconStateFromEth1.{genesis_validator}

abbrev pub with_balance : Preset → Validator → Option ℕ → Validator
with_balance preset validator None = validator
with_balance preset validator (Some balance) = genesis_validator preset validator balance
