use Rattle.hash_tree.specs.inside.Lanes.{variables}
use Rattle.hash_tree.proofs.Schedules.{next_round}
use Rattle.hash_tree.proofs.rounds.step.Goals as goal

pub returns : goal.returns
returns g c j h words less word before = next_round h words (variables j c.args.v) c.args.t _ _ before word (c.round.ensures j less)
