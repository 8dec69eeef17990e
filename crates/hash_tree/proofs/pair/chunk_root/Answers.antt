use Rattle.std.proofs.Common.{◌++◌, length, ap}
use Rattle.std.proofs.lemmas.List.{drop-replicate}
use Rattle.hash_tree.specs.Merkle.{padded_chunk}
use Rattle.hash_tree.proofs.pair.chunk_root.Goals as goal

pub returns : goal.returns
unfolding padded_chunk
returns c =
    rw c.copy_from_slice.ensures.after (ap (λ t. c.args.bytes.now ++ t) (drop-replicate (length c.args.bytes.now) 32 0))
