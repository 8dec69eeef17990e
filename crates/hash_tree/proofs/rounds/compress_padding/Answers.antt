use Rattle.std.proofs.Common.{ap, ◌∙◌}
use Rattle.sha2.specs.Sha256.{add_state, compress, schedule}
use Rattle.hash_tree.specs.inside.Lanes.{variables, padding_block}
use Rattle.hash_tree.proofs.Schedules.{no_round}
use Rattle.hash_tree.proofs.rounds.compress_padding.Goals as goal

pub returns : goal.returns
unfolding compress
returns g c j less =
    let h = variables j c.args.h in
    let one = c.sixteen_padding_steps-v.ensures j h less (no_round h (schedule padding_block 48)) in
    let two = c.sixteen_padding_steps-v-2.ensures j h less one in
    let three = c.sixteen_padding_steps-v-3.ensures j h less two in
    let four = c.sixteen_padding_steps-v-4.ensures j h less three in
    c.add_all.ensures j less ∙ ap (add_state h) four
