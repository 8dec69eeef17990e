-- What the maker makes has a writing: each part is within its limits.
use Rattle.std.proofs.Common.{◌≡◌, ℕ, zero, suc, ◌+◌, ◌*◌, ◌^◌, ◌<◌, ◌≤◌, Bool, true, false, ◌==◌, if◌then◌else◌, List, [], ◌∷◌, ◌++◌, length, map, replicate, Option, Some, None, refl, ap, arith, length-append}
use Rattle.std.specs.List.{AllByRecursion}
use Rattle.ssz_codec.specs.declared.layout.Field.{Field}
use Rattle.ssz_codec.specs.declared.layout.Field.TheVariants.{Fixed, Variable}
use Rattle.ssz_codec.specs.Basic.{bytes32, bytes96}
use Rattle.ssz_codec.specs.Lawful.{FitFields}
use Rattle.ssz_codec.specs.Layout.{fixed_length, fixed_parts, variable_parts, joined, OffsetsFit}
use Rattle.ssz_codec.specs.BitLists.{bit_list_bytes}
use Rattle.ssz_codec.specs.laws.Layout.{IsBytes-append, fixed_parts_is_long}
use Rattle.ssz_codec.specs.laws.Basic.{bits_bytes_len}
use Rattle.beacon_types.specs.declared.checkpoint.Checkpoint.{Checkpoint}
use Rattle.beacon_types.specs.declared.attestation_data.AttestationData.{AttestationData}
use Rattle.beacon_types.specs.Containers.{checkpoint_codec, attestation_data_codec, eth1_data_codec}
use Rattle.beacon_types.specs.laws.Containers.{attestation_data_lawful}
use Rattle.beacon_types.specs.declared.attestation.Attestation.{Attestation}
use Rattle.beacon_types.specs.Blocks.{attestation_codec, block_body_codec, signed_block_codec}
use Rattle.spec_state.specs.declared.plain.PlainState.{PlainState}
use Rattle.spec_drill.specs.Plan.{Plan, slot_digest, graffiti_in, graffiti_of}
use Rattle.spec_drill.specs.MakeGenesis.{zero_eth1}
use Rattle.spec_drill.specs.MakeBlock.{body_of, unrooted}
use Rattle.spec_state.proofs.Digests.{hash_within, replicate_fits, zero_root_within}

-- ---- votes

checkpoint_within : (c : Checkpoint) → c.epoch < 2 ^ 64 → bytes32.Within c.root → checkpoint_codec.Within c
unfolding OffsetsFit
checkpoint_within c low root = (((tt, low), root), tt)

pub data_within : (d : AttestationData) → d.slot < 2 ^ 64 → d.index < 2 ^ 64 → bytes32.Within d.beacon_block_root → d.source.epoch < 2 ^ 64 → bytes32.Within d.source.root → d.target.epoch < 2 ^ 64 → bytes32.Within d.target.root → attestation_data_codec.Within d
unfolding OffsetsFit
data_within d slot index root source source_root target target_root =
    ((((((tt, slot), index), root), checkpoint_within d.source source source_root), checkpoint_within d.target target target_root), tt)

-- a vote of at most four members
pub record IsSmallVote (a : Attestation) : Type 0 where
  pub bits : length a.aggregation_bits ≤ 4
  pub content : attestation_data_codec.Within a.content
  pub signature : bytes96.Within a.signature

pub vote_within : (a : Attestation) → IsSmallVote a → attestation_codec.Within a
unfolding OffsetsFit
vote_within a small = let b = small.bits in ((((tt, (omega arith)), small.content), small.signature), ((omega arith), tt))

bits_short : (bits : List Bool) → length bits ≤ 4 → length (bit_list_bytes bits) ≤ 1
unfolding bit_list_bytes
bits_short bits few =
    let many = length-append bits (true ∷ []) in
    let is = bits_bytes_len (bits ++ true ∷ []) in omega arith

vote_short : (a : Attestation) → IsSmallVote a → length (attestation_codec.serialize a) ≤ 240
unfolding joined variable_parts
vote_short a small =
    let parts : List (List ℕ) = bit_list_bytes a.aggregation_bits ∷ attestation_data_codec.serialize a.content ∷ a.signature ∷ [] in
    let fields : List Field = Variable ∷ Fixed 128 ∷ Fixed 96 ∷ [] in
    let first = fixed_parts_is_long fields parts 228 (tt, (attestation_data_lawful.size a.content small.content, (small.signature.0, tt))) in
    let bits = bits_short a.aggregation_bits small.bits in
    let last = length-append (bit_list_bytes a.aggregation_bits) [] in
    let whole = length-append (fixed_parts fields parts 228) (bit_list_bytes a.aggregation_bits ++ []) in
    omega arith

-- ---- lists of votes

fits_variable : (k : ℕ) (parts : List (List ℕ)) → length parts ≡ k → FitFields (replicate k Variable) parts
fits_variable zero [] e = tt
fits_variable zero (p ∷ parts) e = absurd (omega arith)
fits_variable (suc k) [] e = absurd (omega arith)
fits_variable (suc k) (p ∷ parts) e = (tt, fits_variable k parts (omega arith))

fixed_variable : (k : ℕ) → fixed_length (replicate k Variable) ≡ 4 * k
fixed_variable zero = refl
fixed_variable (suc k) = let r = fixed_variable k in omega arith

variable_short : (k most : ℕ) (parts : List (List ℕ)) → AllByRecursion (λ p. length p ≤ most) parts → length (variable_parts (replicate k Variable) parts) ≤ length parts * most
unfolding variable_parts
variable_short zero most parts all = omega arith
variable_short (suc k) most [] all = omega arith
variable_short (suc k) most (p ∷ parts) all =
    let r = variable_short k most parts all.1 in let l = all.0 in
    let e = length-append p (variable_parts (replicate k Variable) parts) in omega arith

offsets_fit : (k most offset : ℕ) (parts : List (List ℕ)) → AllByRecursion (λ p. length p ≤ most) parts → offset + length parts * most < 2 ^ 32 → OffsetsFit (replicate k Variable) parts offset
unfolding OffsetsFit
offsets_fit zero most offset parts all low = tt
offsets_fit (suc k) most offset [] all low = tt
offsets_fit (suc k) most offset (p ∷ parts) all low = let l = all.0 in ((omega arith), offsets_fit k most (offset + length p) parts all.1 (omega arith))

-- the votes of a block
pub record AreSmallVotes (votes : List Attestation) : Type 0 where
  pub few : length votes ≤ 4
  pub all : AllByRecursion IsSmallVote votes

all_within : (votes : List Attestation) → AllByRecursion IsSmallVote votes → AllByRecursion attestation_codec.Within votes
all_within [] all = tt
all_within (a ∷ votes) all = (vote_within a all.0, all_within votes all.1)

all_short : (votes : List Attestation) → AllByRecursion IsSmallVote votes → AllByRecursion (λ p. length p ≤ 240) (map attestation_codec.serialize votes)
all_short [] all = tt
all_short (a ∷ votes) all = (vote_short a all.0, all_short votes all.1)

length-map_of : {A B : Type 0} (f : A → B) (xs : List A) → length (map f xs) ≡ length xs
length-map_of f [] = refl
length-map_of f (x ∷ xs) = ap suc (length-map_of f xs)

list_short : (votes : List Attestation) → AreSmallVotes votes → length (joined (replicate (length votes) Variable) (map attestation_codec.serialize votes)) ≤ 1000
unfolding joined
list_short votes small =
    let k : ℕ = length votes in
    let parts : List (List ℕ) = map attestation_codec.serialize votes in
    let many = length-map_of attestation_codec.serialize votes in
    let fixed = fixed_parts_is_long (replicate k Variable) parts (fixed_length (replicate k Variable)) (fits_variable k parts many) in
    let four = fixed_variable k in
    let rest = variable_short k 240 parts (all_short votes small.all) in
    let whole = length-append (fixed_parts (replicate k Variable) parts (fixed_length (replicate k Variable))) (variable_parts (replicate k Variable) parts) in
    let few = small.few in omega arith

-- ---- blocks

pub digest_within : (number slot : ℕ) → bytes32.Within (slot_digest number slot)
unfolding slot_digest
digest_within number slot = hash_within _

one_of_two : (b : Bool) → (if b then 170 else 187) < 256
one_of_two true = omega arith
one_of_two false = omega arith

graffiti_in_within : (which : Option ℕ) (bytes : List ℕ) → bytes32.Within bytes → bytes32.Within (graffiti_in which bytes)
graffiti_in_within None bytes within = within
graffiti_in_within (Some which) bytes within = (refl, replicate_fits 32 (if which == 0 then 170 else 187) (one_of_two (which == 0)))

graffiti_within : (plan : Plan) (slot : ℕ) → bytes32.Within (graffiti_of plan slot)
unfolding graffiti_of
graffiti_within plan slot = graffiti_in_within plan.which (slot_digest plan.number slot) (digest_within plan.number slot)

pub eth1_within : eth1_data_codec.Within zero_eth1
unfolding OffsetsFit
eth1_within = ((((tt, zero_root_within), (omega arith)), zero_root_within), tt)

three_within : (m : List ℕ) → bytes32.Within m → bytes96.Within (m ++ m ++ m)
three_within m within =
    let a = length-append (m ++ m) m in let b = length-append m m in let size = within.0 in
    ((omega arith), IsBytes-append (m ++ m) m (IsBytes-append m m within.1 within.1) within.1)

body_within : (plan : Plan) (s : PlainState) (votes : List Attestation) → AreSmallVotes votes → block_body_codec.Within (body_of plan s votes)
unfolding body_of OffsetsFit joined fixed_parts variable_parts
body_within plan s votes small =
    let m : List ℕ = slot_digest plan.number s.slot in
    let reveal : bytes96.Within (m ++ m ++ m) = three_within m (digest_within plan.number s.slot) in
    let few = small.few in
    let many = length-map_of attestation_codec.serialize votes in
    let short = list_short votes small in (
      ((((((((tt, reveal), eth1_within), graffiti_within plan s.slot), (omega arith, tt)), (omega arith, tt, tt)), ((omega arith), all_within votes small.all, offsets_fit (length votes) 240 (4 * length votes) (map attestation_codec.serialize votes) (all_short votes small.all) (omega arith))), (omega arith, tt)), (omega arith, tt)),
      ((omega arith), ((omega arith), ((omega arith), ((omega arith), ((omega arith), tt))))),
    )

-- a made block has a writing
pub block_within : (plan : Plan) (s : PlainState) (root state_root : List ℕ) (votes : List Attestation) (proposer : ℕ) → s.slot ≤ 1024 → proposer < 64 → bytes32.Within root → bytes32.Within state_root → AreSmallVotes votes
    → signed_block_codec.Within (record { message = record (unrooted plan s root votes proposer) { state_root = state_root }; signature = replicate 96 0 })
unfolding unrooted OffsetsFit
block_within plan s root state_root votes proposer low few parent state small =
    (((tt, (((((((tt, (omega arith)), (omega arith)), parent), state), body_within plan s votes small)), ((omega arith), tt))), (refl, replicate_fits 96 0 (omega arith))), ((omega arith), tt))
