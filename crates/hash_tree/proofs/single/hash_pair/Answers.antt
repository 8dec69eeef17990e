use Rattle.std.proofs.Common.{ℕ, List, ap, sym, ◌∙◌, ◌++◌}
use Rattle.sha2.specs.Sha256.{compress, digest_bytes}
use Rattle.hash_tree.specs.inside.Lanes.{padding_block}
use Rattle.hash_tree.proofs.Hashes.{hash_of_64}
use Rattle.hash_tree.proofs.single.hash_pair.Goals as goal

pub returns : goal.returns
returns c =
    let m = c.args.a.now ++ c.args.b.now in
    let first = c.compress-h.ensures m c.load.ensures.window in
    let second = c.compress_padding.ensures ∙ ap (λ (h : List ℕ). compress h padding_block) first in
    c.digest.ensures ∙ (ap (λ (h : List ℕ). digest_bytes h 8) second ∙ sym (hash_of_64 m c.load.ensures.long))
