use Rattle.std.proofs.Common.{ap, ◌∙◌}
use Rattle.sha2.specs.Sha256.{add_state, compress, schedule}
use Rattle.hash_tree.specs.inside.Lanes.{variables}
use Rattle.hash_tree.proofs.rounds.compress_rest.Goals as goal

pub returns : goal.returns
unfolding compress
returns c j b less words_are begun =
    let h = variables j c.args.h in
    let words = schedule b 48 in
    let one = c.four_steps-v.ensures j h words less words_are begun in
    let two = c.four_steps-v-2.ensures j h words less words_are one in
    let three = c.sixteen_steps-v.ensures j h words less words_are two in
    let four = c.sixteen_steps-v-2.ensures j h words less words_are three in
    let five = c.sixteen_steps-v-3.ensures j h words less words_are four in
    c.add_all.ensures j less ∙ ap (add_state h) five
