use Rattle.std.proofs.Common.{◌+◌, ap, ◌∙◌, arith}
use Rattle.sha2.specs.Sha256.{rounds}
use Rattle.hash_tree.proofs.rounds.four_steps.Goals as goal

pub returns : goal.returns
returns g c j h words less words_are before =
    let after = rounds h words in
    let one = c.step-v.ensures j h words less (words_are c.args.t (omega arith)) before in
    let two = c.step-v-2.ensures j h words less (words_are (c.args.t + 1) (omega arith)) one in
    let three = c.step-v-3.ensures j h words less (words_are (c.args.t + 2) (omega arith)) (two ∙ ap after (omega arith)) in
    c.step.ensures j h words less (words_are (c.args.t + 3) (omega arith)) (three ∙ ap after (omega arith)) ∙ ap after (omega arith)
