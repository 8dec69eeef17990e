use Rattle.sha2.specs.Sha256.{schedule}
use Rattle.hash_tree.specs.inside.Lanes.{variables}
use Rattle.hash_tree.proofs.Schedules.{no_round}
use Rattle.hash_tree.proofs.rounds.eight_steps.Goals as goal

pub returns : goal.returns
returns c j b less words_are =
    let h = variables j c.args.h in
    let words = schedule b 48 in
    let one = c.four_steps-v.ensures j h words less words_are (no_round h words) in
    c.four_steps.ensures j h words less words_are one
