use Rattle.std.proofs.Common.{◌≡◌, length, ap, sym, ◌∙◌, arith}
use Rattle.hash_tree.specs.Merkle.{depth_of, merkle_root, merkleize, mix_in_length, byte_chunks, bit_chunk_count}
use Rattle.hash_tree.specs.Merkle.{bits_bytes}
use Rattle.ssz_codec.proofs.HeldBits.{held_len}
use Rattle.ssz_codec.proofs.bit_list.BitList.root.Goals as goal

pub merkle_bytes-requires-clause-fits : goal.merkle_bytes-requires-clause-fits
merkle_bytes-requires-clause-fits c =
    let n = ap length c.deref.ensures.value ∙ held_len c.self.inside c.self.invariant in
    let m = sym c.self.invariant.count ∙ ap length c.self.view_is in
    let k = c.depth_of-depth.ensures.fits in
    omega (arith, n, m, k, c.bit_chunks.ensures.exact)

pub returns : goal.returns
unfolding merkleize
returns c =
    let len : c.self.inside.len ≡ length c.args.self.now = sym c.self.invariant.count ∙ ap length c.self.view_is in
    let bytes : c.deref.result.now ≡ bits_bytes c.args.self.now = c.deref.ensures.value ∙ sym c.self.invariant.packed ∙ ap bits_bytes c.self.view_is in
    let depth : c.depth_of-depth.result ≡ depth_of (bit_chunk_count c.args.limit) = c.depth_of-depth.ensures.depth ∙ ap depth_of c.bit_chunks.ensures.exact in
    c.mix_in_length.ensures
    ∙ ap (λ n. mix_in_length c.merkle_bytes.result n) len
    ∙ ap (λ r. mix_in_length r (length c.args.self.now)) (c.merkle_bytes.ensures ∙ ap (λ l. merkle_root c.depth_of-depth.result (byte_chunks l)) bytes ∙ ap (λ d. merkle_root d (byte_chunks (bits_bytes c.args.self.now))) depth)
