-- The bytes were taken one after another, and one of the digest's is picked.
use Rattle.std.proofs.Common.{ℕ, List, [], ◌++◌, ◌∙◌, ap, ap₂, slice_index}
use Rattle.sha2.specs.Sha256.{sha256}
use Rattle.hash_tree.specs.Merkle.{hash, uint_to_bytes}
use Rattle.node_drill.specs.Deliveries.{delivery_byte}
use Rattle.node_drill.proofs.order.delivery_byte.Goals as goal

pub returns : goal.returns
unfolding delivery_byte hash uint_to_bytes
returns c =
    let number : List ℕ = c.to_le_bytes.result in
    let i : List ℕ = c.to_le_bytes-2.result in
    ap (λ (digest : List ℕ). slice_index digest c.args.node)
    (c.finalize-digest.ensures (number ++ i) (c.update-2.ensures number (c.update.ensures [] c.new-hasher.ensures))
    ∙ ap₂ (λ (number i : List ℕ). sha256 (number ++ i)) c.to_le_bytes.ensures c.to_le_bytes-2.ensures)
