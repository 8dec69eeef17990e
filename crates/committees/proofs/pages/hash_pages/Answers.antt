-- Each source is the hash of its page's message.
use Rattle.std.proofs.Common.{◌≡◌, ◌∙◌, ◌+◌, ◌-◌, ◌%◌, ap, arith}
use Rattle.committees.specs.Shuffling.{source_of}
use Rattle.hash_tree.specs.Merkle.{hash}
use Rattle.committees.proofs.pages.hash_pages.Goals as goal

pub returns : goal.returns
unfolding source_of hash
returns c k same =
    let page : c.args.page - c.args.page % 8 + k % 8 ≡ k = omega arith in
    c.hash_sources_in.ensures (k % 8) (omega arith) ∙ ap (source_of c.args.seed.now c.args.round) page
