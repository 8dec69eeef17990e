use Rattle.std.proofs.Common.{ap, ◌∙◌, arith}
use Rattle.sha2.specs.Sha256.{rounds, schedule}
use Rattle.hash_tree.specs.inside.Lanes.{padding_block}
use Rattle.hash_tree.proofs.rounds.four_padding_steps.Goals as goal

pub returns : goal.returns
returns g c j h less before =
    let after = rounds h (schedule padding_block 48) in
    let one = c.padding_step-v.ensures j h less before in
    let two = c.padding_step-v-2.ensures j h less one in
    let three = c.padding_step-v-3.ensures j h less (two ∙ ap after (omega arith)) in
    c.padding_step.ensures j h less (three ∙ ap after (omega arith)) ∙ ap after (omega arith)
