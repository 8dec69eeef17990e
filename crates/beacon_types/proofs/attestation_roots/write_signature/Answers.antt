-- A signature has three chunks.
use Rattle.std.proofs.Common.{rules, ◌≡◌, ◌∙◌, ℕ, List, [], ◌∷◌, take, drop, ap, ap₂, sym}
use Rattle.std.proofs.lemmas.List.{drop-drop}
use Rattle.hash_tree.specs.Merkle.{padded_chunk, chunks_of, zero_root}
use Rattle.beacon_types.specs.inside.AttestationChunks.{signature_chunks}
use Rattle.beacon_types.proofs.attestation_roots.write_signature.Goals as goal
use borrow.Rule.Slice.PartMut.{mid_of}

pub returns : goal.returns
unfolding signature_chunks chunks_of
returns c =
    let signature = c.args.attestation.now.signature in
    let second : mid_of 32 32 signature ≡ take 32 (drop 32 signature) = search rules in
    let third : mid_of 64 32 signature ≡ take 32 (drop 64 signature) = search rules in
    rw (c.copy_from_slice.ensures.after, c.chunk_root.ensures, c.chunk_root-2.ensures, c.chunk_root-3.ensures)
    (ap₂ (λ (x y : List ℕ). padded_chunk (take 32 signature) ∷ padded_chunk x ∷ padded_chunk y ∷ zero_root ∷ []) second (third ∙ ap (take 32) (sym (drop-drop 32 32 signature))))
