-- Committees that are kept with what they were made of.
use Rattle.std.specs.Prelude.{◌≡◌}
use Rattle.bc_preset.specs.declared.presets.Preset.{Preset}
use Rattle.committees.specs.Committees.{committees_of}
use Rattle.active_sets.specs.declared.kept_committees.Made.{Made}

-- by this preset, of their seed and their active list
abbrev pub IsMadeBy : Preset → Made → Type 0
IsMadeBy preset made = made.committees.value ≡ committees_of preset made.seed made.active.value.items
