use Rattle.std.proofs.Common.{◌≡◌, ◌∙◌, sym, ◌*◌}
use Rattle.sha2.specs.Sha256.{word_at}
use Rattle.hash_tree.proofs.SourceBlocks.{seed_word}
use Rattle.hash_tree.proofs.sources.seed_word.Goals as goal

pub returns : goal.returns
returns c tail =
    let word : c.from_be_bytes.result ≡ word_at c.args.seed.now (4 * c.args.place) = c.from_be_bytes.ensures in
    word ∙ sym (seed_word c.args.seed.now tail c.args.place c.told-seed c.requires)
