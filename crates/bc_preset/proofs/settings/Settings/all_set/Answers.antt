-- A key that is missing is told before a value out of its range.
use Rattle.std.proofs.Common.{refl}
use Rattle.bc_preset.specs.inside.OnePass.{all_set}
use Rattle.bc_preset.proofs.settings.Settings.all_set.Goals as goal

pub returns-in_default-seconds_per_slot-clause-exact : goal.returns-in_default-seconds_per_slot-clause-exact
unfolding all_set
returns-in_default-seconds_per_slot-clause-exact c = rw (c.in-Some.is, c.in_default-seconds_per_slot.is) refl
