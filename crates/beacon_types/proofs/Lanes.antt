-- Layers over blocks of equal length: a layer of blocks is that of each block.
use Rattle.std.proofs.Common.{◌≡◌, ◌∙◌, ℕ, zero, suc, ◌+◌, ◌*◌, ◌<◌, List, [], ◌∷◌, ◌++◌, length, get_or, take, drop, map, refl, sym, ap, ap₂, arith}
use Rattle.std.proofs.Math.Nat.{mul-zero, mul-suc}
use Rattle.std.proofs.lemmas.List.{flat_map_more, take_more, map-append, length-append, take_at, drop_at, drop-drop}
use Rattle.std.proofs.lemmas.List.Elements.{All-head, All-tail}
use Rattle.std.proofs.lemmas.Simd.{map-map}
use Rattle.std.specs.List.{flat_map, All}
use Rattle.hash_tree.specs.Pairs.{parents, hashes_of}
use Rattle.sha2.specs.Sha256.{sha256}
use Rattle.hash_tree.specs.Merkle.{hash, merkle_root, merkleize, depth_of, depth_from, chunks_of}
use Rattle.beacon_types.specs.declared.validator.Validator.{Validator}
use Rattle.beacon_types.specs.Containers.{validator_codec}
use Rattle.beacon_types.specs.inside.ValidatorChunks.{key_chunks, root_of_chunks, key_root, chunks_below}
use Rattle.beacon_types.specs.inside.ValidatorChunks.{owner_chunks, owner_root, status_root, epochs_root, IsAlike}

parents_joined : (k : ℕ) (xs ys : List (List ℕ)) → length xs ≡ 2 * k → parents (xs ++ ys) ≡ parents xs ++ parents ys
unfolding parents
parents_joined zero [] ys even = refl
parents_joined zero (x ∷ xs) ys even = absurd (omega arith)
parents_joined (suc k) [] ys even = absurd (omega arith)
parents_joined (suc k) (x ∷ []) ys even = absurd (omega arith)
parents_joined (suc k) (x ∷ (y ∷ xs)) ys even = ap (λ (rest : List (List ℕ)). sha256 (x ++ y) ∷ rest) (parents_joined k xs ys (omega arith))

pub count_parents : (k : ℕ) (xs : List (List ℕ)) → length xs ≡ 2 * k → length (parents xs) ≡ k
unfolding parents
count_parents zero [] even = refl
count_parents zero (x ∷ xs) even = absurd (omega arith)
count_parents (suc k) [] even = absurd (omega arith)
count_parents (suc k) (x ∷ []) even = absurd (omega arith)
count_parents (suc k) (x ∷ (y ∷ xs)) even = ap suc (count_parents k xs (omega arith))

pub parents_of_blocks : {V : Type 0} (k : ℕ) (block : V → List (List ℕ)) → ((v : V) → length (block v) ≡ 2 * k) → (vs : List V) → parents (flat_map block vs) ≡ flat_map (λ v. parents (block v)) vs
unfolding parents
parents_of_blocks k block even [] = refl
parents_of_blocks k block even (v ∷ vs) = parents_joined k (block v) (flat_map block vs) (even v) ∙ ap (λ (rest : List (List ℕ)). parents (block v) ++ rest) (parents_of_blocks k block even vs)

pub single_blocks : {V : Type 0} (block : V → List (List ℕ)) (root : V → List ℕ) → ((v : V) → block v ≡ root v ∷ []) → (vs : List V) → flat_map block vs ≡ map root vs
single_blocks block root one [] = refl
single_blocks block root one (v ∷ vs) = ap₂ (λ (xs ys : List (List ℕ)). xs ++ ys) (one v) (single_blocks block root one vs)

-- one more block
pub block_more : {V : Type 0} (block : V → List (List ℕ)) (vs : List V) (i : ℕ) (d : V) → i < length vs → flat_map block (take i vs) ++ block (get_or vs i d) ≡ flat_map block (take (i + 1) vs)
block_more block vs i d lt = flat_map_more block [] (take i vs) (get_or vs i d) ∙ ap (flat_map block) (sym (take_more vs i d lt))

-- blocks of one length: how many nodes they have
pub count_blocks : {V : Type 0} (k : ℕ) (block : V → List (List ℕ)) → ((v : V) → length (block v) ≡ k) → (vs : List V) → length (flat_map block vs) ≡ k * length vs
count_blocks k block long [] = sym (mul-zero k)
count_blocks k block long (v ∷ vs) =
    let more : k * suc (length vs) ≡ k * length vs + k = mul-suc k (length vs) in
    omega (arith, length-append (block v) (flat_map block vs), long v, count_blocks k block long vs, more)

-- and those of one of them
pub block_at : {V : Type 0} (k : ℕ) (block : V → List (List ℕ)) → ((v : V) → length (block v) ≡ k) → (vs : List V) (i : ℕ) (d : V) → i < length vs
    → take k (drop (k * i) (flat_map block vs)) ≡ block (get_or vs i d)
block_at k block long [] i d less = absurd (omega arith)
block_at k block long (v ∷ vs) zero d less =
    ap (λ (n : ℕ). take k (drop n (block v ++ flat_map block vs))) (mul-zero k) ∙ take_at (block v) (flat_map block vs) k (long v)
block_at k block long (v ∷ vs) (suc i) d less =
    let more : k * suc i ≡ k + k * i = mul-suc k i ∙ omega arith in
    ap (λ (n : ℕ). take k (drop n (block v ++ flat_map block vs))) more
    ∙ (ap (take k) (sym (drop-drop (k * i) k (block v ++ flat_map block vs)))
    ∙ (ap (λ (nodes : List (List ℕ)). take k (drop (k * i) nodes)) (drop_at (block v) (flat_map block vs) k (long v))
    ∙ block_at k block long vs i d (omega arith)))

-- where two roots are equal of the values so far and of one more
pub root_more : {V : Type 0} (root same : V → List ℕ) (vs : List V) (i : ℕ) (d : V) → i < length vs → map root (take i vs) ≡ map same (take i vs) → root (get_or vs i d) ≡ same (get_or vs i d)
    → map root (take (i + 1) vs) ≡ map same (take (i + 1) vs)
root_more {V = V} root same vs i d lt so_far e =
    let x = get_or vs i d in
    ap (map root) (take_more vs i d lt) ∙ map-append root (take i vs) (x ∷ [])
    ∙ ap₂ (λ (xs : List (List ℕ)) (y : List ℕ). xs ++ y ∷ []) so_far e
    ∙ sym (ap (map same) (take_more vs i d lt) ∙ map-append same (take i vs) (x ∷ []))

two : (a b : List ℕ) → parents (a ∷ b ∷ []) ≡ merkle_root 1 (a ∷ b ∷ []) ∷ []
unfolding parents merkle_root hash
two a b = refl

eight : (a b c d e f g h : List ℕ) → parents (parents (parents (a ∷ b ∷ c ∷ d ∷ e ∷ f ∷ g ∷ h ∷ []))) ≡ merkle_root 3 (a ∷ b ∷ c ∷ d ∷ e ∷ f ∷ g ∷ h ∷ []) ∷ []
unfolding parents merkle_root hash
eight a b c d e f g h = refl

-- the parents of all keys' chunks are the roots over them
pub keys_of : (vs : List Validator) → parents (flat_map key_chunks vs) ≡ map root_of_chunks vs
unfolding key_chunks root_of_chunks chunks_of
keys_of vs = parents_of_blocks 1 key_chunks (λ v. refl) vs ∙ single_blocks (λ v. parents (key_chunks v)) root_of_chunks (λ v. two _ _) vs

one_root : (v : Validator) → parents (parents (parents (chunks_below v))) ≡ validator_codec.hash_tree_root v ∷ []
unfolding chunks_below key_root merkleize depth_of depth_from
one_root v = eight _ _ _ _ _ _ _ _

-- three layers over all validators' chunks are the validators' roots
pub roots_of : (vs : List Validator) → parents (parents (parents (flat_map chunks_below vs))) ≡ map validator_codec.hash_tree_root vs
unfolding chunks_below
roots_of vs =
    ap (λ (xs : List (List ℕ)). parents (parents xs)) (parents_of_blocks 4 chunks_below (λ v. refl) vs)
    ∙ (ap parents (parents_of_blocks 2 (λ v. parents (chunks_below v)) (λ v. count_parents 4 (chunks_below v) refl) vs)
    ∙ (parents_of_blocks 1 (λ v. parents (parents (chunks_below v))) (λ v. count_parents 2 (parents (chunks_below v)) (count_parents 4 (chunks_below v) refl)) vs
    ∙ single_blocks (λ v. parents (parents (parents (chunks_below v)))) validator_codec.hash_tree_root one_root vs))

-- the root over the chunks of a key of 48 bytes is its root
pub root_of_key : (v : Validator) → length v.pubkey ≡ 48 → root_of_chunks v ≡ key_root v
unfolding root_of_chunks key_chunks key_root merkleize depth_of depth_from
root_of_key v long = rw long refl

-- the parents of all validators' first two chunks are the roots over them
pub owners_of : (vs : List Validator) → parents (flat_map owner_chunks vs) ≡ map owner_root vs
unfolding owner_chunks owner_root
owners_of vs =
    parents_of_blocks 1 owner_chunks (λ v. refl) vs
    ∙ single_blocks (λ v. parents (owner_chunks v)) owner_root (λ v. two _ _) vs

-- the hashes of nodes, each with the same node behind it
pub hashes_with : (behind : List ℕ) (nodes : List (List ℕ)) → hashes_of (map (λ node. node ∷ behind ∷ []) nodes) ≡ map (λ node. hash (node ++ behind)) nodes
unfolding hashes_of hash
hashes_with behind nodes = map-map _ _ nodes

-- the root of a validator by the three roots below it
root_of_parts : (v : Validator) → hash (hash (owner_root v ++ status_root v) ++ epochs_root v) ≡ validator_codec.hash_tree_root v
unfolding owner_root owner_chunks status_root epochs_root key_root merkle_root merkleize depth_of depth_from
root_of_parts v = refl

-- and where two of them are known
root_of_known : (status epochs : List ℕ) (v : Validator) → status_root v ≡ status → epochs_root v ≡ epochs
    → hash (hash (owner_root v ++ status) ++ epochs) ≡ validator_codec.hash_tree_root v
root_of_known status epochs v s e = sym (ap₂ (λ (a b : List ℕ). hash (hash (owner_root v ++ a) ++ b)) s e) ∙ root_of_parts v

-- the roots of validators that have these two alike
pub roots_of_alike : (status epochs : List ℕ) (vs : List Validator) → All (λ v. status_root v ≡ status) vs → All (λ v. epochs_root v ≡ epochs) vs
    → map (λ node. hash (node ++ epochs)) (map (λ node. hash (node ++ status)) (map owner_root vs)) ≡ map validator_codec.hash_tree_root vs
roots_of_alike status epochs [] s e = refl
roots_of_alike status epochs (v ∷ vs) s e =
    let same_status : Validator → Type 0 = λ w. status_root w ≡ status in
    let same_epochs : Validator → Type 0 = λ w. epochs_root w ≡ epochs in
    ap₂ (λ (x : List ℕ) (xs : List (List ℕ)). x ∷ xs) (root_of_known status epochs v (All-head same_status v vs s) (All-head same_epochs v vs e))
    (roots_of_alike status epochs vs (All-tail same_status v vs s) (All-tail same_epochs v vs e))

-- validators that are alike in all but their keys and withdrawal credentials have these two alike
pub status_of_alike : (a b : Validator) → IsAlike a b → status_root a ≡ status_root b
unfolding status_root
status_of_alike a b h = rw (h.balance, h.slashed) refl

pub epochs_of_alike : (a b : Validator) → IsAlike a b → epochs_root a ≡ epochs_root b
unfolding epochs_root
epochs_of_alike a b h = rw (h.eligibility, h.activation, h.exit, h.withdrawable) refl
