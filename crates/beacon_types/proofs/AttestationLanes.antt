-- Layers over the chunks of attestations: those of all are those of each.
use Rattle.std.proofs.Common.{◌≡◌, ◌∙◌, ℕ, zero, suc, ◌+◌, ◌*◌, ◌/◌, ◌<◌, ◌≤◌, List, [], ◌∷◌, ◌++◌, length, get_or, take, drop, map, refl, sym, ap, ap₂, arith}
use Rattle.std.specs.List.{flat_map}
use Rattle.std.proofs.lemmas.List.{drop_all}
use Rattle.hash_tree.specs.Pairs.{parents}
use Rattle.hash_tree.specs.Merkle.{hash, zero_root, merkle_root, merkleize, mix_in_length, length_chunk, depth_of, depth_from, chunks_of, bits_bytes, padded_chunk, uint_to_bytes}
use Rattle.ssz_codec.specs.laws.Basic.{bits_bytes_len}
use Rattle.beacon_types.specs.declared.attestation.Attestation.{Attestation}
use Rattle.beacon_types.specs.Containers.{pending_attestation_codec}
use Rattle.beacon_types.specs.Blocks.{attestation_codec}
use Rattle.beacon_types.specs.inside.AttestationChunks.{signature_chunks, signature_halves, signature_chunk_root, signature_root, checkpoint_chunks, source_root, target_root, place_root, block_and_source, target_alone, content_halves, content_root}
use Rattle.beacon_types.specs.inside.AttestationChunks.{bits_chunks, bits_top, two_chunks_root, bits_root, single_chunks, first_nodes, first_roots, second_nodes, second_roots, third_nodes, third_roots, fourth_nodes, fourth_roots, field_chunks, vote_root, halves_of}
use Rattle.beacon_types.specs.inside.RootedAttestations.{pending_of}
use Rattle.beacon_types.proofs.Lanes.{parents_of_blocks, single_blocks, count_blocks, block_at}

-- blocks that are the same for each value are the same for all
same_blocks : {V : Type 0} (block same : V → List (List ℕ)) → ((v : V) → block v ≡ same v) → (vs : List V) → flat_map block vs ≡ flat_map same vs
same_blocks block same e [] = refl
same_blocks block same e (v ∷ vs) = ap₂ (λ (xs ys : List (List ℕ)). xs ++ ys) (e v) (same_blocks block same e vs)

-- a layer over blocks, by the layer over each
layer_of : {V : Type 0} (k : ℕ) (nodes roots : V → List (List ℕ)) → ((v : V) → length (nodes v) ≡ 2 * k) → ((v : V) → parents (nodes v) ≡ roots v)
    → (vs : List V) → parents (flat_map nodes vs) ≡ flat_map roots vs
layer_of k nodes roots even e vs = parents_of_blocks k nodes even vs ∙ same_blocks (λ v. parents (nodes v)) roots e vs

-- the root over the chunks of a signature of 96 bytes is its root
pub root_of_signature : (v : Attestation) → length v.signature ≡ 96 → signature_chunk_root v ≡ signature_root v
unfolding signature_chunk_root signature_chunks signature_root merkleize depth_of depth_from merkle_root chunks_of
root_of_signature v long = rw long refl

-- bytes that fill no more than two chunks
few_chunks : (count : ℕ) (bytes : List ℕ) → count ≤ 2 → length bytes ≤ 32 * count → merkle_root 3 (chunks_of count bytes) ≡ merkle_root 3 (chunks_of 2 bytes)
unfolding merkle_root chunks_of padded_chunk
few_chunks zero [] low few = refl
few_chunks zero (b ∷ bytes) low few = absurd (omega arith)
few_chunks (suc zero) bytes low few = let past = drop_all 32 bytes (omega arith) in rw past refl
few_chunks (suc (suc zero)) bytes low few = refl
few_chunks (suc (suc (suc count))) bytes low few = absurd (omega arith)

-- at most 512 bits stand in the first two chunks
pub root_of_bits : (v : Attestation) → length v.aggregation_bits ≤ 512 → two_chunks_root v ≡ bits_root v
unfolding two_chunks_root bits_top bits_chunks bits_root merkleize depth_of depth_from
root_of_bits v few =
    let bytes = bits_bytes v.aggregation_bits in
    let long = bits_bytes_len v.aggregation_bits in
    sym (ap (λ (root : List ℕ). mix_in_length root (length v.aggregation_bits)) (few_chunks ((length bytes + 31) / 32) bytes (omega (arith, long)) (omega arith)))

-- the layers, one after another
first_layer : (v : Attestation) → parents (first_nodes v) ≡ first_roots v
unfolding parents first_nodes signature_chunks checkpoint_chunks single_chunks first_roots signature_halves source_root target_root place_root bits_top bits_chunks chunks_of merkleize depth_of depth_from merkle_root hash
first_layer v = refl

pub firsts_of : (vs : List Attestation) → parents (flat_map first_nodes vs) ≡ flat_map first_roots vs
unfolding first_nodes signature_chunks checkpoint_chunks single_chunks bits_chunks chunks_of
firsts_of vs = layer_of 6 first_nodes first_roots (λ v. refl) first_layer vs

second_layer : (v : Attestation) → parents (second_nodes v) ≡ second_roots v
unfolding parents second_nodes signature_chunks second_roots signature_halves signature_chunk_root block_and_source target_alone bits_top bits_chunks chunks_of merkle_root hash
second_layer v = refl

pub seconds_of : (vs : List Attestation) → parents (flat_map second_nodes vs) ≡ flat_map second_roots vs
unfolding second_nodes signature_halves
seconds_of vs = layer_of 4 second_nodes second_roots (λ v. refl) second_layer vs

third_layer : (v : Attestation) → parents (third_nodes v) ≡ third_roots v
unfolding parents third_nodes third_roots content_halves bits_top bits_chunks chunks_of merkle_root hash
third_layer v = refl

pub thirds_of : (vs : List Attestation) → parents (flat_map third_nodes vs) ≡ flat_map third_roots vs
unfolding third_nodes
thirds_of vs = layer_of 3 third_nodes third_roots (λ v. refl) third_layer vs

fourth_layer : (v : Attestation) → parents (fourth_nodes v) ≡ fourth_roots v
unfolding parents fourth_nodes fourth_roots content_halves content_root place_root block_and_source target_alone source_root target_root two_chunks_root mix_in_length length_chunk padded_chunk uint_to_bytes merkleize depth_of depth_from merkle_root hash
fourth_layer v = refl

pub fourths_of : (vs : List Attestation) → parents (flat_map fourth_nodes vs) ≡ flat_map fourth_roots vs
unfolding fourth_nodes content_halves
fourths_of vs = layer_of 2 fourth_nodes fourth_roots (λ v. refl) fourth_layer vs

both_halves : (v : Attestation) → parents (field_chunks v) ≡ halves_of v
unfolding parents field_chunks halves_of vote_root hash
both_halves v = refl

pub halves_from : (vs : List Attestation) → parents (flat_map field_chunks vs) ≡ flat_map halves_of vs
unfolding field_chunks
halves_from vs = layer_of 2 field_chunks halves_of (λ v. refl) both_halves vs

one_attestation : (v : Attestation) → parents (halves_of v) ≡ attestation_codec.hash_tree_root v ∷ []
unfolding parents halves_of vote_root bits_root content_root signature_root merkleize depth_of depth_from merkle_root hash
one_attestation v = refl

-- and one layer over the halves is the attestations' roots
pub attestations_of : (vs : List Attestation) → parents (flat_map halves_of vs) ≡ map attestation_codec.hash_tree_root vs
unfolding halves_of
attestations_of vs =
    parents_of_blocks 1 halves_of (λ v. refl) vs
    ∙ single_blocks (λ v. parents (halves_of v)) attestation_codec.hash_tree_root one_attestation vs

-- the root of an attestation by the nodes below it
pub root_by_halves : (v : Attestation) → hash (vote_root v ++ hash (signature_root v ++ zero_root)) ≡ attestation_codec.hash_tree_root v
unfolding vote_root bits_root content_root signature_root merkleize depth_of depth_from merkle_root
root_by_halves v = refl

-- the root of an attestation as it waits, by the node over its bits and its data
pub pending_by_vote : (v : Attestation) (delay proposer : ℕ)
    → hash (vote_root v ++ hash (padded_chunk (uint_to_bytes delay) ++ padded_chunk (uint_to_bytes proposer))) ≡ pending_attestation_codec.hash_tree_root (pending_of v delay proposer)
unfolding vote_root bits_root content_root merkleize depth_of depth_from merkle_root
pending_by_vote v delay proposer = refl

-- the roots of each layer stand one attestation after another
twice_suc : (n : ℕ) → 2 * suc n ≡ suc (suc (2 * n))
twice_suc n = omega arith

-- the first of the two nodes of each value
first_of_two : {V : Type 0} (first second : V → List ℕ) (vs : List V) (i : ℕ) (d : List ℕ) (e : V) → i < length vs
    → get_or (flat_map (λ v. first v ∷ second v ∷ []) vs) (2 * i) d ≡ first (get_or vs i e)
first_of_two first second [] i d e less = absurd (omega arith)
first_of_two first second (v ∷ vs) zero d e less = refl
first_of_two first second (v ∷ vs) (suc i) d e less = rw twice_suc (first_of_two first second vs i d e (omega arith))

-- there are two nodes below each root
pub count_halves : (vs : List Attestation) → length (flat_map halves_of vs) ≡ 2 * length vs
unfolding halves_of
count_halves vs = count_blocks 2 halves_of (λ v. refl) vs

pub count_firsts : (vs : List Attestation) → length (flat_map first_roots vs) ≡ 6 * length vs
unfolding first_roots signature_halves
count_firsts vs = count_blocks 6 first_roots (λ v. refl) vs

pub count_seconds : (vs : List Attestation) → length (flat_map second_roots vs) ≡ 4 * length vs
unfolding second_roots
count_seconds vs = count_blocks 4 second_roots (λ v. refl) vs

pub count_thirds : (vs : List Attestation) → length (flat_map third_roots vs) ≡ 3 * length vs
unfolding third_roots content_halves
count_thirds vs = count_blocks 3 third_roots (λ v. refl) vs

pub count_fourths : (vs : List Attestation) → length (flat_map fourth_roots vs) ≡ 2 * length vs
unfolding fourth_roots
count_fourths vs = count_blocks 2 fourth_roots (λ v. refl) vs

pub firsts_at : (vs : List Attestation) (i : ℕ) (v : Attestation) → i < length vs → v ≡ get_or vs i v → take 6 (drop (6 * i) (flat_map first_roots vs)) ≡ first_roots v
unfolding first_roots signature_halves
firsts_at vs i v less at = block_at 6 first_roots (λ w. refl) vs i v less ∙ ap first_roots (sym at)

pub seconds_at : (vs : List Attestation) (i : ℕ) (v : Attestation) → i < length vs → v ≡ get_or vs i v → take 4 (drop (4 * i) (flat_map second_roots vs)) ≡ second_roots v
unfolding second_roots
seconds_at vs i v less at = block_at 4 second_roots (λ w. refl) vs i v less ∙ ap second_roots (sym at)

pub thirds_at : (vs : List Attestation) (i : ℕ) (v : Attestation) → i < length vs → v ≡ get_or vs i v → take 3 (drop (3 * i) (flat_map third_roots vs)) ≡ third_roots v
unfolding third_roots content_halves
thirds_at vs i v less at = block_at 3 third_roots (λ w. refl) vs i v less ∙ ap third_roots (sym at)

pub fourths_at : (vs : List Attestation) (i : ℕ) (v : Attestation) → i < length vs → v ≡ get_or vs i v → take 2 (drop (2 * i) (flat_map fourth_roots vs)) ≡ fourth_roots v
unfolding fourth_roots
fourths_at vs i v less at = block_at 2 fourth_roots (λ w. refl) vs i v less ∙ ap fourth_roots (sym at)

-- of the halves, the first is over the bits and the data
pub vote_at : (vs : List Attestation) (i : ℕ) (v : Attestation) (d : List ℕ) → i < length vs → v ≡ get_or vs i v
    → get_or (flat_map halves_of vs) (2 * i) d ≡ vote_root v
unfolding halves_of
vote_at vs i v d less at = first_of_two vote_root (λ w. hash (signature_root w ++ zero_root)) vs i d v less ∙ ap vote_root (sym at)
