-- A key that has no value yet is set.
use Rattle.std.proofs.Common.{◌≡◌, rules, false}
use Rattle.bc_preset.specs.inside.OnePass.{after_line, is_set}
use Rattle.bc_preset.proofs.settings.Settings.after_line.Goals as goal

pub returns-else-is_set : goal.returns-else-is_set
unfolding after_line
returns-else-is_set c =
    let unset : is_set c.args.self c.in-Setting.key ≡ false = search rules in
    rw (← c.read.ensures, c.in-Setting.is, unset) c.set_key.ensures
