-- The new one is taken where there is none before it, or one with a greater delay.
use Rattle.std.proofs.Common.{rules}
use Rattle.epoch_rewards.specs.inside.Inclusions.{better}
use Rattle.epoch_rewards.proofs.inclusions.better.Goals as goal

pub returns-in_default : goal.returns-in_default
unfolding better
returns-in_default c = search rules
