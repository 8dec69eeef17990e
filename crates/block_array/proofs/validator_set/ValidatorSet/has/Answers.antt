use Rattle.std.proofs.Common.{◌/◌, get_or, ap, ◌∙◌}
use Rattle.block_array.specs.PlainArray.{is_listed}
use Rattle.block_array.specs.inside.Silenced.{Indices}
use Rattle.block_array.proofs.ValidatorSets.{bit_read}
use Rattle.block_array.proofs.validator_set.ValidatorSet.has.Goals as goal

pub returns : goal.returns
returns c =
    bit_read c.self.inside.words.items c.args.validator c.word_at-word.result (c.word_at-word.ensures ∙ ap (λ ws. get_or ws (c.args.validator / 64) 0) c.as_slice.ensures.value)
    ∙ ap (λ (s : Indices). is_listed s.indices c.args.validator) c.self.view_is
