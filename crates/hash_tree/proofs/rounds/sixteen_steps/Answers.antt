use Rattle.std.proofs.Common.{ap, ◌∙◌, arith}
use Rattle.sha2.specs.Sha256.{rounds}
use Rattle.hash_tree.proofs.rounds.sixteen_steps.Goals as goal

pub returns : goal.returns
returns g c j h words less words_are before =
    let after = rounds h words in
    let one = c.four_steps-v.ensures j h words less words_are before in
    let two = c.four_steps-v-2.ensures j h words less words_are one in
    let three = c.four_steps-v-3.ensures j h words less words_are (two ∙ ap after (omega arith)) in
    c.four_steps.ensures j h words less words_are (three ∙ ap after (omega arith)) ∙ ap after (omega arith)
