use Rattle.std.proofs.Common.{ap, ◌∙◌, arith}
use Rattle.sha2.specs.Sha256.{rounds, schedule}
use Rattle.hash_tree.specs.inside.Lanes.{padding_block}
use Rattle.hash_tree.proofs.single.sixteen_padding_steps.Goals as goal

pub returns : goal.returns
returns c h before =
    let after = rounds h (schedule padding_block 48) in
    let one = c.four_padding_steps-v.ensures h before in
    let two = c.four_padding_steps-v-2.ensures h one in
    let three = c.four_padding_steps-v-3.ensures h (two ∙ ap after (omega arith)) in
    c.four_padding_steps.ensures h (three ∙ ap after (omega arith)) ∙ ap after (omega arith)
