use Rattle.std.proofs.Common.{ap, ◌∙◌, arith}
use Rattle.sha2.specs.Sha256.{rounds, schedule}
use Rattle.hash_tree.specs.inside.Lanes.{padding_block}
use Rattle.hash_tree.proofs.single.four_padding_steps.Goals as goal

pub returns : goal.returns
returns c h before =
    let after = rounds h (schedule padding_block 48) in
    let one = c.padding_step-v.ensures h before in
    let two = c.padding_step-v-2.ensures h one in
    let three = c.padding_step-v-3.ensures h (two ∙ ap after (omega arith)) in
    c.padding_step.ensures h (three ∙ ap after (omega arith)) ∙ ap after (omega arith)
