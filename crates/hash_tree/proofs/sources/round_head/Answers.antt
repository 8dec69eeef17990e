-- The round and the padding's first byte, by computing them.
use Rattle.hash_tree.specs.inside.Lanes.{round_tail}
use Rattle.hash_tree.proofs.sources.round_head.Goals as goal

pub returns : goal.returns
unfolding round_tail
returns c = c.from_be_bytes.ensures
