use Rattle.std.proofs.Common.{ap, ◌∙◌}
use Rattle.sha2.specs.Sha256.{add_state, compress, schedule}
use Rattle.hash_tree.specs.inside.Lanes.{variables}
use Rattle.hash_tree.proofs.Schedules.{no_round}
use Rattle.hash_tree.proofs.rounds.compress.Goals as goal

pub returns : goal.returns
unfolding compress
returns g c j b less words_are =
    let h = variables j c.args.h in
    let words = schedule b 48 in
    let one = c.sixteen_steps-v.ensures j h words less words_are (no_round h words) in
    let two = c.sixteen_steps-v-2.ensures j h words less words_are one in
    let three = c.sixteen_steps-v-3.ensures j h words less words_are two in
    let four = c.sixteen_steps-v-4.ensures j h words less words_are three in
    c.add_all.ensures j less ∙ ap (add_state h) four
