-- The number of items is a chunk of its own, low byte first.
use Rattle.std.proofs.Common.{rules}
use Rattle.hash_tree.specs.Merkle.{mix_in_length, length_chunk, uint_to_bytes}
use Rattle.hash_tree.proofs.pair.mix_in_length.Goals as goal

pub returns : goal.returns
unfolding mix_in_length length_chunk uint_to_bytes
returns c = search rules
