-- The balance by the greatest byte is compared with the greatest balance by this byte.
use Rattle.std.proofs.Common.{rules}
use Rattle.committees.specs.Proposers.{weighs_enough}
use Rattle.committees.proofs.proposer.weighs_enough.Goals as goal

pub returns : goal.returns
unfolding weighs_enough
returns c = search rules
