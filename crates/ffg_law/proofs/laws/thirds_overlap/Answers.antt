-- Two sets of two thirds share a third.
use Rattle.ffg_law.specs.Weights.{among}
use Rattle.ffg_law.proofs.Weights.{third_is_shared}
use Rattle.ffg_law.proofs.laws.thirds_overlap.Goals as goal

pub returns : goal.returns
returns c = third_is_shared c.args.weights.now (among c.args.first.now) (among c.args.second.now) c.requires.first_thirds c.requires.second_thirds
