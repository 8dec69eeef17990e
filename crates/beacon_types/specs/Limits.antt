-- The limit of a committee (phase 0 presets, "Misc").
use Rattle.std.specs.Prelude.{ℕ}
use Rattle.bc_preset.specs.Presets.{mainnet}

-- MAX_VALIDATORS_PER_COMMITTEE, which both presets share
abbrev pub max_validators_per_committee : ℕ
max_validators_per_committee = mainnet.max_validators_per_committee
