-- The pairs of a layer are its nodes, two by two.
use Rattle.std.proofs.Common.{◌/◌, length, ap, ◌∙◌, arith}
use Rattle.hash_tree.specs.Pairs.{hashes_of}
use Rattle.hash_tree.proofs.LayerPairs.{pairs_of}
use Rattle.hash_tree.proofs.pairs.hash_layer.Goals as goal

pub returns : goal.returns
returns c = c.hash_pairs.ensures ∙ (ap hashes_of c.as_chunks.ensures.front ∙ pairs_of (length c.args.nodes.now / 2) c.args.nodes.now (omega arith))
