use Rattle.std.proofs.Common.{◌≡◌, ◌∙◌, ℕ, List, [], ◌∷◌, take, drop, ap, ap₂, sym}
use Rattle.hash_tree.specs.Merkle.{bits_bytes, chunks_of, padded_chunk}
use Rattle.ssz_codec.proofs.bit_list.BitList.first_chunks.Goals as goal

pub returns : goal.returns
unfolding chunks_of
returns c =
    let packed : c.self.inside.bytes.items ≡ bits_bytes c.args.self.now = sym c.self.invariant.packed ∙ ap bits_bytes c.self.view_is in
    let first : c.chunk_from.result ≡ padded_chunk (take 32 (bits_bytes c.args.self.now)) =
    c.chunk_from.ensures ∙ ap (λ (xs : List ℕ). padded_chunk (take 32 xs)) (c.deref.ensures.value ∙ packed) in
    let second : c.chunk_from-2.result ≡ padded_chunk (take 32 (drop 32 (bits_bytes c.args.self.now))) =
    c.chunk_from-2.ensures ∙ ap (λ (xs : List ℕ). padded_chunk (take 32 (drop 32 xs))) (c.deref-2.ensures.value ∙ packed) in
    ap₂ (λ (x y : List ℕ). x ∷ y ∷ []) first second
