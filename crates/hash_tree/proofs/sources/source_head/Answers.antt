-- The round and three bytes of the page, by computing them.
use Rattle.std.proofs.Common.{◌∙◌, refl}
use Rattle.hash_tree.specs.inside.Lanes.{source_tail}
use Rattle.hash_tree.proofs.sources.source_head.Goals as goal

pub returns : goal.returns
unfolding source_tail
returns c = c.from_be_bytes.ensures ∙ (rw c.to_le_bytes.ensures refl)
