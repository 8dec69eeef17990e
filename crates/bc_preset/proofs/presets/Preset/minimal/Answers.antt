use Rattle.std.proofs.Common.{refl}
use Rattle.bc_preset.proofs.presets.Preset.minimal.Goals as goal

pub returns-clause-exact : goal.returns-clause-exact
returns-clause-exact c = refl
