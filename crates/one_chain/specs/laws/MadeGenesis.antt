-- What `genesis` writes, as `replay` reads it.
use Rattle.std.specs.Prelude.{◌≡◌, ℕ, List, Some}
use Rattle.bc_preset.specs.Presets.{IsPreset}
use Rattle.bc_preset.specs.declared.configuration.ConfigValues.{ConfigValues}
use Rattle.ssz_codec.specs.Lawful.{IsBytes}
use Rattle.spec_genesis.specs.MadeGenesis.{HoldsGenesis}
use Rattle.spec_replay.specs.Run.{done}
use Rattle.spec_replay.specs.Genesis.{make_genesis}

-- Under a configuration of either preset, where the run ends well, all that it writes is one genesis file: the reader of
-- `replay` takes it, and finds no fault in its state.
abbrev pub MakesWhatIsReplayed : Type 0
MakesWhatIsReplayed = (config : ConfigValues) (deposits : List ℕ) → IsPreset config.preset → IsBytes deposits
    → (make_genesis config (Some deposits)).end ≡ Some done → HoldsGenesis config.preset (make_genesis config (Some deposits)).lines
