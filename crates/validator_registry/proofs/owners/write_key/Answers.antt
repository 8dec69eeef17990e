-- A key has two chunks.
use Rattle.std.proofs.Common.{◌≡◌, ◌∙◌, ℕ, List, [], ◌∷◌, length, take, drop, ap, sym, arith, length-drop}
use Rattle.std.proofs.lemmas.List.{take_all}
use Rattle.hash_tree.specs.Merkle.{padded_chunk, chunks_of}
use Rattle.beacon_types.specs.inside.ValidatorChunks.{key_chunks}
use Rattle.beacon_types.proofs.Lanes.{root_of_key}
use Rattle.validator_registry.proofs.owners.write_key.Goals as goal

pub returns-clause-chunks : goal.returns-clause-chunks
unfolding key_chunks chunks_of
returns-clause-chunks c =
    let key = c.args.validator.now.pubkey in
    let rest : length (drop 32 key) ≡ 16 = length-drop 32 key ∙ omega (arith, c.is_long.ensures) in
    rw (c.copy_from_slice.ensures.after, c.chunk_root.ensures, c.chunk_root-2.ensures)
    (ap (λ (xs : List ℕ). padded_chunk (take 32 key) ∷ padded_chunk xs ∷ []) (take_all 16 (drop 32 key) (omega arith) ∙ sym (take_all 32 (drop 32 key) (omega arith))))

pub returns-clause-root : goal.returns-clause-root
returns-clause-root c = root_of_key c.args.validator.now c.is_long.ensures
