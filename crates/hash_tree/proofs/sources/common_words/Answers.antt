use Rattle.std.proofs.Common.{◌∙◌}
use Rattle.std.proofs.lemmas.Simd.{get_or-replicate}
use Rattle.hash_tree.proofs.sources.common_words.Goals as goal

pub returns : goal.returns
returns c j round page seed less near common =
    get_or-replicate 8 j _ 0 less ∙ common round page c.args.place near c.requires.place c.requires.no_round
