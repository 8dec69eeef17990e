-- What is gained comes first, and what is lost is taken from it.
use Rattle.std.proofs.Common.{rules}
use Rattle.epoch_rewards.specs.inside.Paid.{settled}
use Rattle.epoch_rewards.proofs.paid.settled.Goals as goal

pub returns : goal.returns
unfolding settled
returns c = search rules
