-- Steady ends of epochs are weighed by the weights of genesis.
use Rattle.vote_law.specs.Backed.{AreAmong}
use Rattle.vote_law.proofs.Steady.{steady_weighed}
use Rattle.vote_law.proofs.laws.genesis_weighs.Goals as goal

pub returns : goal.returns
returns c votes genesis state after is late bounds preset steady backed = steady_weighed (AreAmong votes) genesis state after is late bounds preset steady backed
