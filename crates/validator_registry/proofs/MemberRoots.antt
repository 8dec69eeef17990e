-- The roots of the members of a group by their columns.
use Rattle.std.proofs.Common.{◌≡◌, ◌∙◌, ℕ, zero, suc, ◌+◌, ◌<◌, ◌≤◌, List, [], ◌∷◌, ◌++◌, length, get_or, take, map, replicate, refl, sym, subst, ap, ap₂, arith}
use Rattle.std.proofs.lemmas.List.{map_more}
use Rattle.std.proofs.lemmas.List.Elements.{All-more, All-get_or, All-head, All-tail}
use Rattle.std.proofs.lemmas.Simd.{map-map, zip2_of_maps}
use Rattle.std.specs.List.{flat_map, All}
use Rattle.std.specs.Simd.Lanes.{zip2}
use Rattle.hash_tree.specs.Merkle.{hash, merkle_root, merkleize, depth_of, depth_from, byte_chunks, chunk_count, padded_chunk, uint_to_bytes, bool_bytes}
use Rattle.hash_tree.specs.Pairs.{parents, hashes_of}
use Rattle.beacon_types.specs.declared.validator.Validator.{Validator}
use Rattle.beacon_types.specs.Containers.{validator_codec}
use Rattle.beacon_types.specs.inside.ValidatorChunks.{key_root, owner_chunks, owner_root, status_root, epochs_root, IsAlike}
use Rattle.beacon_types.proofs.Lanes.{parents_of_blocks, count_parents, single_blocks}
use Rattle.validator_registry.specs.declared.member.Member.{Member}
use Rattle.validator_registry.specs.inside.Columns.{epochs_chunks}
use Rattle.validator_registry.specs.inside.Groups.{validator_of, validators_of}

-- the hash of two nodes that stand side by side
abbrev pub joined_hash : List ℕ → List ℕ → List ℕ
joined_hash a b = hash (a ++ b)

-- the root over a key and the withdrawal credentials is the hash of both
pub owner_of_parts : (v : Validator) → hash (merkleize (byte_chunks v.pubkey) (chunk_count 48) ++ v.withdrawal_credentials) ≡ owner_root v
unfolding owner_root owner_chunks key_root merkle_root
owner_of_parts v = refl

owners_of_parts : (vs : List Validator) → map (λ v. joined_hash (key_root v) v.withdrawal_credentials) vs ≡ map owner_root vs
unfolding owner_root owner_chunks merkle_root
owners_of_parts vs = refl

-- the roots over keys and withdrawal credentials by both columns
pub owners_of_columns : (vs : List Validator) → zip2 (λ a b. hash (a ++ b)) (map key_root vs) (map (λ v. v.withdrawal_credentials) vs) ≡ map owner_root vs
owners_of_columns vs = zip2_of_maps joined_hash key_root (λ v. v.withdrawal_credentials) vs refl refl ∙ owners_of_parts vs

-- as many validators as members
pub count_of : (ms : List Member) (bs : List ℕ) → length ms ≤ length bs → length (validators_of ms bs) ≡ length ms
unfolding validators_of
count_of [] bs room = refl
count_of (m ∷ ms) [] room = absurd (omega arith)
count_of (m ∷ ms) (b ∷ bs) room = ap suc (count_of ms bs (omega arith))

-- the validator at a place is the member there with the balance there
at_of : (ms : List Member) (bs : List ℕ) (i : ℕ) (m : Member) (v : Validator) → i < length ms → length ms ≤ length bs → m ≡ get_or ms i m
    → get_or (validators_of ms bs) i v ≡ validator_of m (get_or bs i 0)
unfolding validators_of
at_of [] bs i m v less room is = absurd (omega arith)
at_of (x ∷ ms) [] i m v less room is = absurd (omega arith)
at_of (x ∷ ms) (y ∷ bs) zero m v less room is = ap (λ (z : Member). validator_of z y) (sym is)
at_of (x ∷ ms) (y ∷ bs) (suc i) m v less room is = at_of ms bs i m v (omega arith) (omega arith) is

-- what is computed of the validators, one member further
pub one_more : {Y : Type 0} (f : Validator → Y) (ms : List Member) (bs : List ℕ) (i : ℕ) (m : Member) → i < length ms → length ms ≤ length bs
    → m ≡ get_or ms i m → map f (take (i + 1) (validators_of ms bs)) ≡ map f (take i (validators_of ms bs)) ++ f (validator_of m (get_or bs i 0)) ∷ []
one_more {Y = Y} f ms bs i m less room is =
    let vs = validators_of ms bs in
    let v = validator_of m (get_or bs i 0) in
    map_more f vs i v (omega (arith, count_of ms bs room)) ∙ ap (λ (x : Validator). map f (take i vs) ++ f x ∷ []) (at_of ms bs i m v less room is)

-- the validators so far are alike another one, one member further
pub alike_more : (other : Validator) (ms : List Member) (bs : List ℕ) (i : ℕ) (m : Member) → i < length ms → length ms ≤ length bs → m ≡ get_or ms i m
    → All (λ v. IsAlike v other) (take i (validators_of ms bs)) → IsAlike (validator_of m (get_or bs i 0)) other
    → All (λ v. IsAlike v other) (take (i + 1) (validators_of ms bs))
alike_more other ms bs i m less room is so_far alike =
    let v = validator_of m (get_or bs i 0) in
    All-more (λ v. IsAlike v other) (validators_of ms bs) i v (omega (arith, count_of ms bs room)) so_far
    (subst (λ (x : Validator). IsAlike x other) (sym (at_of ms bs i m v less room is)) alike)

-- where all validators are alike another one, so is that of each member
pub alike_at : (other : Validator) (ms : List Member) (bs : List ℕ) (i : ℕ) (m : Member) → i < length ms → length ms ≤ length bs → m ≡ get_or ms i m
    → All (λ v. IsAlike v other) (validators_of ms bs) → IsAlike (validator_of m (get_or bs i 0)) other
alike_at other ms bs i m less room is all =
    let v = validator_of m (get_or bs i 0) in
    subst (λ (x : Validator). IsAlike x other) (at_of ms bs i m v less room is)
    (All-get_or (λ v. IsAlike v other) (validators_of ms bs) i v (omega (arith, count_of ms bs room)) all)

beside_next : {X Y Z : Type 0} (f : X → Y → Z) (xs : List X) (ys : List Y) (i : ℕ) (x : X) (y : Y) → i < length xs → i < length ys
    → zip2 f (take (suc i) xs) (take (suc i) ys) ≡ zip2 f (take i xs) (take i ys) ++ f (get_or xs i x) (get_or ys i y) ∷ []
beside_next f [] ys i x y less room = absurd (omega arith)
beside_next f (a ∷ xs) [] i x y less room = absurd (omega arith)
beside_next f (a ∷ xs) (b ∷ ys) zero x y less room = refl
beside_next {Z = Z} f (a ∷ xs) (b ∷ ys) (suc i) x y less room = ap (λ (rest : List Z). f a b ∷ rest) (beside_next f xs ys i x y (omega arith) (omega arith))

-- what is computed of two columns, one place further
pub beside_more : {X Y Z : Type 0} (f : X → Y → Z) (xs : List X) (ys : List Y) (i : ℕ) (x : X) (y : Y) → i < length xs → i < length ys
    → zip2 f (take (i + 1) xs) (take (i + 1) ys) ≡ zip2 f (take i xs) (take i ys) ++ f (get_or xs i x) (get_or ys i y) ∷ []
beside_more f xs ys i x y less room =
    let next : i + 1 ≡ suc i = omega arith in
    ap (λ (n : ℕ). zip2 f (take n xs) (take n ys)) next ∙ beside_next f xs ys i x y less room

-- the hashes of two columns
pub hashes_beside : (xs ys : List (List ℕ)) → hashes_of (zip2 (λ a b. a ∷ b ∷ []) xs ys) ≡ zip2 (λ a b. hash (a ++ b)) xs ys
unfolding hashes_of hash
hashes_beside [] ys = refl
hashes_beside (x ∷ xs) [] = refl
hashes_beside (x ∷ xs) (y ∷ ys) = ap (λ (rest : List (List ℕ)). hash (x ++ y) ∷ rest) (hashes_beside xs ys)

-- the two chunks of a validator's effective balance and of whether it was slashed
abbrev pub status_pair : Validator → List (List ℕ)
status_pair v = padded_chunk (uint_to_bytes v.effective_balance) ∷ padded_chunk (bool_bytes v.slashed) ∷ []

-- and the roots over them
pub statuses_of : (vs : List Validator) → hashes_of (map status_pair vs) ≡ map status_root vs
unfolding hashes_of status_root hash
statuses_of vs = map-map _ _ vs

-- the chunks of a member's epochs
abbrev pub chunks_of_member : Member → List (List ℕ)
chunks_of_member member = epochs_chunks member.validator

-- two layers over all members' chunks are the roots over their epochs
pub epochs_of : (ms : List Member) → parents (parents (flat_map chunks_of_member ms)) ≡ map (λ member. epochs_root member.validator) ms
unfolding epochs_chunks epochs_root parents hash
epochs_of ms =
    ap parents (parents_of_blocks 2 chunks_of_member (λ m. refl) ms)
    ∙ (parents_of_blocks 1 (λ m. parents (chunks_of_member m)) (λ m. count_parents 2 (chunks_of_member m) refl) ms
    ∙ single_blocks (λ m. parents (parents (chunks_of_member m))) (λ m. epochs_root m.validator) (λ m. refl) ms)

-- the roots over the members' epochs are those of the validators
pub epochs_of_members : (ms : List Member) (bs : List ℕ) → length ms ≤ length bs → map (λ member. epochs_root member.validator) ms ≡ map epochs_root (validators_of ms bs)
unfolding validators_of epochs_root
epochs_of_members [] bs room = refl
epochs_of_members (m ∷ ms) [] room = absurd (omega arith)
epochs_of_members (m ∷ ms) (b ∷ bs) room = ap (λ (rest : List (List ℕ)). epochs_root m.validator ∷ rest) (epochs_of_members ms bs (omega arith))

-- and so are those over the keys and the withdrawal credentials
owners_of_members : (ms : List Member) (bs : List ℕ) → length ms ≤ length bs → map (λ member. owner_root member.validator) ms ≡ map owner_root (validators_of ms bs)
unfolding validators_of owner_root owner_chunks key_root
owners_of_members [] bs room = refl
owners_of_members (m ∷ ms) [] room = absurd (omega arith)
owners_of_members (m ∷ ms) (b ∷ bs) room = ap (λ (rest : List (List ℕ)). owner_root m.validator ∷ rest) (owners_of_members ms bs (omega arith))

-- one root for all of them, where all have it
pub one_for_all : (root : Validator → List ℕ) (x : List ℕ) (vs : List Validator) (n : ℕ) → length vs ≡ n → All (λ v. root v ≡ x) vs → replicate n x ≡ map root vs
one_for_all root x [] zero long all = refl
one_for_all root x [] (suc n) long all = absurd (omega arith)
one_for_all root x (v ∷ vs) zero long all = absurd (omega arith)
one_for_all root x (v ∷ vs) (suc n) long all =
    let same : Validator → Type 0 = λ w. root w ≡ x in
    ap₂ (λ (a : List ℕ) (rest : List (List ℕ)). a ∷ rest) (sym (All-head same v vs all)) (one_for_all root x vs n (omega arith) (All-tail same v vs all))

-- no roots where there is no member
pub none_of_none : (root : Validator → List ℕ) (ms : List Member) (bs : List ℕ) (out : List (List ℕ)) → length ms ≡ 0 → length out ≡ length ms → out ≡ map root (validators_of ms bs)
unfolding validators_of
none_of_none root [] bs [] none room = refl
none_of_none root [] bs (x ∷ out) none room = absurd (omega arith)
none_of_none root (m ∷ ms) bs out none room = absurd (omega arith)

-- the root of a validator by the three roots below it
root_of_parts : (v : Validator) → hash (hash (owner_root v ++ status_root v) ++ epochs_root v) ≡ validator_codec.hash_tree_root v
unfolding owner_root owner_chunks status_root epochs_root key_root merkle_root merkleize depth_of depth_from
root_of_parts v = refl

roots_of_parts : (vs : List Validator) → map (λ v. hash (hash (owner_root v ++ status_root v) ++ epochs_root v)) vs ≡ map validator_codec.hash_tree_root vs
roots_of_parts [] = refl
roots_of_parts (v ∷ vs) = ap₂ (λ (x : List ℕ) (xs : List (List ℕ)). x ∷ xs) (root_of_parts v) (roots_of_parts vs)

-- the roots of the validators by the three columns below them
pub roots_of_columns : (ms : List Member) (bs : List ℕ) → length ms ≤ length bs
    → zip2 (λ a b. hash (a ++ b)) (zip2 (λ a b. hash (a ++ b)) (map (λ member. owner_root member.validator) ms) (map status_root (validators_of ms bs))) (map epochs_root (validators_of ms bs))
    ≡ map validator_codec.hash_tree_root (validators_of ms bs)
roots_of_columns ms bs room =
    let vs = validators_of ms bs in
    zip2_of_maps joined_hash (λ v. joined_hash (owner_root v) (status_root v)) epochs_root vs
    (zip2_of_maps joined_hash owner_root status_root vs (owners_of_members ms bs room) refl) refl
    ∙ roots_of_parts vs
