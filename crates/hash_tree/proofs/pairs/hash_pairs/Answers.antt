-- All hashes are written.
use Rattle.sha2.specs.Sha256.{sha256}
use Rattle.hash_tree.specs.Pairs.{message, hashes_of}
use Rattle.hash_tree.proofs.Maps.{mapped}
use Rattle.hash_tree.proofs.pairs.hash_pairs.Goals as goal

pub returns : goal.returns
unfolding hashes_of
returns c = mapped (λ pair. sha256 (message pair)) c.hash_each.new.out c.args.pairs.now c.hash_each.ensures.room c.hash_each.ensures.each
