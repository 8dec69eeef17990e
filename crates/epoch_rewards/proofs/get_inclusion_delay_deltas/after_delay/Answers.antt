-- What is left is divided by the delay.
use Rattle.std.proofs.Common.{rules}
use Rattle.epoch_rewards.proofs.get_inclusion_delay_deltas.after_delay.Goals as goal

pub returns : goal.returns
returns c = search rules
