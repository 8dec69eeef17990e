-- A word is one of the seed or one behind it.
use Rattle.std.proofs.Common.{◌-◌, sym, ◌∙◌, arith}
use Rattle.std.proofs.lemmas.Simd.{get_or-replicate}
use Rattle.hash_tree.proofs.SourceBlocks.{word_behind}
use Rattle.hash_tree.proofs.sources.words.Goals as goal

pub returns-then-place-lt8 : goal.returns-then-place-lt8
returns-then-place-lt8 c j tail less tails = get_or-replicate 8 j _ 0 less ∙ c.seed_word.ensures tail

pub returns : goal.returns
returns c j tail less tails =
    tails (c.args.place - 8) (omega arith) ∙ sym (word_behind c.args.seed.now tail c.args.place c.told-seed (omega arith))
