use Rattle.hash_tree.specs.Merkle.{hash}
use Rattle.committees.specs.Shuffling.{source_of}
use Rattle.committees.proofs.eights.page_sources.Goals as goal

pub returns : goal.returns
unfolding source_of hash
returns c few j less = c.hash_page_of_rounds.ensures j less
