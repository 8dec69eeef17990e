-- The nodes of the trees of an attestation, layer by layer, for roots of many attestations at once. The nodes of a layer stand in
-- pairs, and the roots of a layer are the hashes of these pairs.
use Rattle.std.specs.Prelude.{ℕ, List, [], ◌∷◌, ◌++◌, length, take, drop}
use Rattle.hash_tree.specs.Merkle.{hash, zero_root, merkle_root, mix_in_length, chunks_of, padded_chunk, bits_bytes, uint_to_bytes}
use Rattle.ssz_codec.specs.Basic.{bytes96}
use Rattle.beacon_types.specs.Containers.{aggregation_bits_codec, attestation_data_codec, checkpoint_codec}
use Rattle.beacon_types.specs.declared.attestation.Attestation.{Attestation}

-- the three chunks of its signature, with a zero chunk behind them
unfoldable pub signature_chunks : Attestation → List (List ℕ)
signature_chunks a = chunks_of 3 a.signature ++ zero_root ∷ []

-- the roots over the first two of them and the last two
unfoldable pub signature_halves : Attestation → List (List ℕ)
signature_halves a = merkle_root 1 (take 2 (signature_chunks a)) ∷ merkle_root 1 (drop 2 (signature_chunks a)) ∷ []

-- the root over them all
unfoldable pub signature_chunk_root : Attestation → List ℕ
signature_chunk_root a = merkle_root 2 (signature_chunks a)

-- the root of its signature
unfoldable pub signature_root : Attestation → List ℕ
signature_root a = bytes96.hash_tree_root a.signature

-- the chunks below the roots of both checkpoints
unfoldable pub checkpoint_chunks : Attestation → List (List ℕ)
checkpoint_chunks a =
    padded_chunk (uint_to_bytes a.content.source.epoch) ∷ a.content.source.root
    ∷ padded_chunk (uint_to_bytes a.content.target.epoch) ∷ a.content.target.root ∷ []

-- the roots of both checkpoints
unfoldable pub source_root : Attestation → List ℕ
source_root a = checkpoint_codec.hash_tree_root a.content.source

unfoldable pub target_root : Attestation → List ℕ
target_root a = checkpoint_codec.hash_tree_root a.content.target

-- the root over its slot and its committee's index
unfoldable pub place_root : Attestation → List ℕ
place_root a = hash (padded_chunk (uint_to_bytes a.content.slot) ++ padded_chunk (uint_to_bytes a.content.index))

-- the root over the block and the source that it votes for
unfoldable pub block_and_source : Attestation → List ℕ
block_and_source a = hash (a.content.beacon_block_root ++ source_root a)

-- the root over the target, with a zero chunk behind it
unfoldable pub target_alone : Attestation → List ℕ
target_alone a = hash (target_root a ++ zero_root)

-- the two nodes below the root of its data
unfoldable pub content_halves : Attestation → List (List ℕ)
content_halves a = hash (place_root a ++ block_and_source a) ∷ hash (target_alone a ++ merkle_root 1 []) ∷ []

-- the root of its data
unfoldable pub content_root : Attestation → List ℕ
content_root a = attestation_data_codec.hash_tree_root a.content

-- the first two chunks of its bits, which are zero where there are none
unfoldable pub bits_chunks : Attestation → List (List ℕ)
bits_chunks a = chunks_of 2 (bits_bytes a.aggregation_bits)

-- the root of a tree of this depth over these chunks alone
unfoldable pub bits_top : ℕ → Attestation → List ℕ
bits_top depth a = merkle_root depth (bits_chunks a)

-- and with the number of bits mixed in: the root of the bits where these chunks hold them all
unfoldable pub two_chunks_root : Attestation → List ℕ
two_chunks_root a = mix_in_length (bits_top 3 a) (length a.aggregation_bits)

-- the root of its bits
unfoldable pub bits_root : Attestation → List ℕ
bits_root a = aggregation_bits_codec.hash_tree_root a.aggregation_bits

-- the first layer's nodes: chunks
unfoldable pub single_chunks : Attestation → List (List ℕ)
single_chunks a = padded_chunk (uint_to_bytes a.content.slot) ∷ padded_chunk (uint_to_bytes a.content.index) ∷ bits_chunks a

unfoldable pub first_nodes : Attestation → List (List ℕ)
first_nodes a = signature_chunks a ++ (checkpoint_chunks a ++ single_chunks a)

unfoldable pub first_roots : Attestation → List (List ℕ)
first_roots a = signature_halves a ++ source_root a ∷ target_root a ∷ place_root a ∷ bits_top 1 a ∷ []

-- the second layer
unfoldable pub second_nodes : Attestation → List (List ℕ)
second_nodes a = signature_halves a ++ a.content.beacon_block_root ∷ source_root a ∷ target_root a ∷ zero_root ∷ bits_top 1 a ∷ merkle_root 1 [] ∷ []

unfoldable pub second_roots : Attestation → List (List ℕ)
second_roots a = signature_chunk_root a ∷ block_and_source a ∷ target_alone a ∷ bits_top 2 a ∷ []

-- the third layer
unfoldable pub third_nodes : Attestation → List (List ℕ)
third_nodes a = place_root a ∷ block_and_source a ∷ target_alone a ∷ merkle_root 1 [] ∷ bits_top 2 a ∷ merkle_root 2 [] ∷ []

unfoldable pub third_roots : Attestation → List (List ℕ)
third_roots a = content_halves a ++ bits_top 3 a ∷ []

-- the fourth layer
unfoldable pub fourth_nodes : Attestation → List (List ℕ)
fourth_nodes a = content_halves a ++ bits_top 3 a ∷ padded_chunk (uint_to_bytes (length a.aggregation_bits)) ∷ []

unfoldable pub fourth_roots : Attestation → List (List ℕ)
fourth_roots a = content_root a ∷ two_chunks_root a ∷ []

-- the fifth layer: the chunks below its own root, with a zero chunk behind them
unfoldable pub field_chunks : Attestation → List (List ℕ)
field_chunks a = bits_root a ∷ content_root a ∷ signature_root a ∷ zero_root ∷ []

-- the root over its bits and its data
unfoldable pub vote_root : Attestation → List ℕ
vote_root a = hash (bits_root a ++ content_root a)

-- that root, and the one over its signature
unfoldable pub halves_of : Attestation → List (List ℕ)
halves_of a = vote_root a ∷ hash (signature_root a ++ zero_root) ∷ []
