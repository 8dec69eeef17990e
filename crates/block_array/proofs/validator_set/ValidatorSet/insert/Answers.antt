use Rattle.std.proofs.Common.{◌*◌, ◌/◌, ◌%◌, ◌^◌, set, ap, ◌∙◌}
use Rattle.std.specs.Prelude.{bit_or}
use Rattle.bc_words.specs.Indices.{with_index}
use Rattle.block_array.specs.inside.Silenced.{Indices, indices_in}
use Rattle.block_array.proofs.ValidatorSets.{word_is, inserted}
use Rattle.block_array.proofs.validator_set.ValidatorSet.insert.Goals as goal

pub returns-clause-with : goal.returns-clause-with
returns-clause-with c =
    ap (λ w. indices_in (set c.pad_words.new.words.items (c.args.validator / 64) w))
    (c.with_bit.ensures
    ∙ ap (λ w. bit_or w (1 * 2 ^ (c.args.validator % 64) % 2 ^ 64)) (word_is c.pad_words.new.words.items (c.args.validator / 64) c.index-word.result.now c.pad_words.ensures.inside c.index-word.ensures))
    ∙ inserted c.pad_words.new.words.items c.args.validator c.pad_words.ensures.inside
    ∙ ap (λ xs. with_index xs c.args.validator) (c.pad_words.ensures.same ∙ ap (λ (s : Indices). s.indices) c.self.view_is)
