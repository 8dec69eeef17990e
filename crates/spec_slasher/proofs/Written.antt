-- Each operation has a writing, which is read as it.
use Rattle.std.proofs.Common.{◌≡◌, ℕ, suc, Bool, true, false, cond, ◌+◌, ◌*◌, ◌^◌, ◌<◌, ◌≤◌, List, [], ◌∷◌, ◌++◌, length, Some, sym, subst, arith, length-append}
use Rattle.std.specs.List.{All, AllByRecursion, flat_map}
use Rattle.std.proofs.lemmas.List.Elements.{recursion_from_All}
use Rattle.ssz_codec.specs.Basic.{uint64}
use Rattle.ssz_codec.specs.Layout.{offset_bytes, fixed_parts, variable_parts, joined, OffsetsFit}
use Rattle.ssz_codec.specs.laws.Layout.{offset_len}
use Rattle.ssz_codec.specs.laws.Basic.{uint64_lawful}
use Rattle.beacon_types.specs.Limits.{max_validators_per_committee}
use Rattle.beacon_types.specs.Containers.{attestation_data_codec, indexed_attestation_codec}
use Rattle.beacon_types.specs.laws.Containers.{attestation_data_lawful}
use Rattle.beacon_types.specs.Blocks.{attestation_codec, attester_slashing_codec}
use Rattle.beacon_types.specs.laws.Blocks.{attester_slashing_lawful}
use Rattle.beacon_types.specs.declared.attestation.Attestation.{Attestation}
use Rattle.beacon_types.specs.declared.attester_slashing.AttesterSlashing.{AttesterSlashing}
use Rattle.spec_state.specs.declared.plain.PlainState.{PlainState}
use Rattle.spec_state.specs.Accessors.{get_attesting_indices, members_with_bits, get_beacon_committee}
use Rattle.ffg_law.specs.Links.{IsOneOf}
use Rattle.spec_forensics.specs.Histories.{AcceptedBlock}
use Rattle.spec_slasher.specs.GetIndexedAttestation.{get_indexed_attestation}
use Rattle.spec_slasher.specs.AttestationOf.{CarriedAttestation, all_attestations, indexed}
use Rattle.spec_slasher.specs.Written.{IsReadable}
use Rattle.spec_slasher.specs.Operations.{operations}
use Rattle.spec_slasher.proofs.Lists.{all_are, each_is, of_order, in_order_long}
use Rattle.spec_slasher.proofs.Named.{attesters_of}
use Rattle.spec_slasher.proofs.Held.{attester_below}
use Rattle.spec_slasher.proofs.Operations.{operation_is}
use Rattle.spec_slasher.proofs.Stands.{stands}

-- what is known of a carried attestation and the state behind its block
record IsWritable (c : CarriedAttestation) : Type 0 where
  within : attestation_codec.Within c.attestation
  registry : length c.accepted.state.validators < 2 ^ 64

writable : (first second : List AcceptedBlock) (c : CarriedAttestation) → All IsReadable (first ++ second) → IsOneOf c (all_attestations first second) → IsWritable c
writable first second c readable h =
    let s = stands first second c h in
    let r = each_is IsReadable (first ++ second) readable c.accepted s.accepted in
    record { within = each_is (λ (a : Attestation). attestation_codec.Within a) c.accepted.block.body.attestations r.attestations c.attestation s.carried; registry = r.registry }

-- ---- no more indices than bits

long_either : (b : Bool) (m : ℕ) (xs : List ℕ) (n : ℕ) → length xs ≤ n → length (cond b (m ∷ xs) xs) ≤ suc n
long_either true m xs n less = omega (arith, less)
long_either false m xs n less = omega (arith, less)

pub members_long : (members : List ℕ) (bits : List Bool) → length (members_with_bits members bits) ≤ length bits
unfolding members_with_bits
members_long [] bits = omega arith
members_long (m ∷ members) [] = omega arith
members_long (m ∷ members) (b ∷ bits) = long_either b m (members_with_bits members bits) (length bits) (members_long members bits)

pub indices_long : (c : CarriedAttestation) → length (indexed c).attesting_indices ≤ length c.attestation.aggregation_bits
unfolding indexed get_indexed_attestation attesters_of get_attesting_indices
indices_long c =
    let one = in_order_long (attesters_of c) in
    let other = members_long (get_beacon_committee c.accepted.state c.attestation.content.slot c.attestation.content.index) c.attestation.aggregation_bits in
    omega (arith, one, other)

low_index : (c : CarriedAttestation) → IsWritable c → (i : ℕ) → IsOneOf i (indexed c).attesting_indices → i < 2 ^ 64
unfolding indexed get_indexed_attestation attesters_of
low_index c readable i h =
    let below = attester_below c.accepted.state c.attestation.content c.attestation.aggregation_bits i (of_order i (attesters_of c) h) in
    let most = readable.registry in
    omega (arith, below, most)

all_below : (c : CarriedAttestation) → IsWritable c → AllByRecursion uint64.Within (indexed c).attesting_indices
all_below c readable = recursion_from_All (λ (n : ℕ). n < 2 ^ 64) (indexed c).attesting_indices (all_are (λ (n : ℕ). n < 2 ^ 64) (indexed c).attesting_indices (low_index c readable))

within_indexed : (c : CarriedAttestation) → IsWritable c → indexed_attestation_codec.Within (indexed c)
unfolding OffsetsFit indexed get_indexed_attestation
within_indexed c readable =
    let w = readable.within in
    let bits : length c.attestation.aggregation_bits ≤ max_validators_per_committee = w.0.0.0.1 in
    let long = indices_long c in
    let few : length (indexed c).attesting_indices ≤ max_validators_per_committee = omega (arith, bits, long) in
    ((((tt, (few, all_below c readable)), w.0.0.1), w.0.1), (omega arith, tt))

numbers_size : (ns : List ℕ) → AllByRecursion uint64.Within ns → length (flat_map uint64.serialize ns) ≡ 8 * length ns
numbers_size [] all = omega arith
numbers_size (n ∷ ns) all =
    let one = uint64_lawful.size n all.0 in
    let rest = numbers_size ns all.1 in
    let both = length-append (uint64.serialize n) (flat_map uint64.serialize ns) in
    omega (arith, one, rest, both)

-- the bytes of three parts, the first of which is variable
three_size : (offset : ℕ) (list voted signature : List ℕ) (n : ℕ) → length list ≡ 8 * n → length voted ≡ 128 → length signature ≡ 96
    → length ((offset_bytes offset ++ (voted ++ (signature ++ []))) ++ (list ++ [])) ≡ 228 + 8 * n
three_size offset list voted signature n a b c =
    let one = length-append (offset_bytes offset ++ (voted ++ (signature ++ []))) (list ++ []) in
    let two = length-append (offset_bytes offset) (voted ++ (signature ++ [])) in
    let three = length-append voted (signature ++ []) in
    let four = length-append signature [] in
    let five = length-append list [] in
    let six = offset_len offset in
    omega (arith, a, b, c, one, two, three, four, five, six)

indexed_size : (c : CarriedAttestation) → IsWritable c → length (indexed_attestation_codec.serialize (indexed c)) ≡ 228 + 8 * length (indexed c).attesting_indices
unfolding joined fixed_parts variable_parts indexed get_indexed_attestation
indexed_size c readable =
    let w = readable.within in
    three_size 228 (flat_map uint64.serialize (indexed c).attesting_indices) (attestation_data_codec.serialize c.attestation.content) c.attestation.signature (length (indexed c).attesting_indices)
    (numbers_size (indexed c).attesting_indices (all_below c readable))
    (attestation_data_lawful.size c.attestation.content w.0.0.1) w.0.1.0

pair_within : (one other : CarriedAttestation) → IsWritable one → IsWritable other → attester_slashing_codec.Within (record { attestation_1 = indexed one; attestation_2 = indexed other })
unfolding OffsetsFit
pair_within one other a b =
    let size = indexed_size one a in
    let bits : length one.attestation.aggregation_bits ≤ max_validators_per_committee = a.within.0.0.0.1 in
    let long = indices_long one in
    (((tt, within_indexed one a), within_indexed other b), (omega arith, (omega (arith, size, bits, long), tt)))

-- an operation of readable blocks has a writing
pub operation_within : (genesis : PlainState) (first second : List AcceptedBlock) (operation : AttesterSlashing) → IsOneOf operation (operations genesis first second)
    → All IsReadable (first ++ second) → attester_slashing_codec.Within operation
operation_within genesis first second operation h readable =
    let w = (operation_is genesis first second operation h).what in
    subst (λ (o : AttesterSlashing). attester_slashing_codec.Within o) (sym w.is) (pair_within w.one w.other (writable first second w.one readable w.one_listed) (writable first second w.other readable w.other_listed))

-- and its writing is read as it
pub operation_read : (genesis : PlainState) (first second : List AcceptedBlock) (operation : AttesterSlashing) → IsOneOf operation (operations genesis first second)
    → All IsReadable (first ++ second) → attester_slashing_codec.deserialize (attester_slashing_codec.serialize operation) ≡ Some operation
operation_read genesis first second operation h readable = attester_slashing_lawful.complete operation (operation_within genesis first second operation h readable)

two_size : (a b : ℕ) (one other : List ℕ) (m n : ℕ) → length one ≡ 228 + 8 * m → length other ≡ 228 + 8 * n → m ≤ 2048 → n ≤ 2048
    → length ((offset_bytes a ++ (offset_bytes b ++ [])) ++ (one ++ (other ++ []))) ≤ 33_232
two_size a b one other m n x y k l =
    let e1 = length-append (offset_bytes a ++ (offset_bytes b ++ [])) (one ++ (other ++ [])) in
    let e2 = length-append (offset_bytes a) (offset_bytes b ++ []) in
    let e3 = length-append (offset_bytes b) [] in
    let e4 = length-append one (other ++ []) in
    let e5 = length-append other [] in
    let e6 = offset_len a in
    let e7 = offset_len b in
    omega (arith, x, y, k, l, e1, e2, e3, e4, e5, e6, e7)

few_indices : (c : CarriedAttestation) → IsWritable c → length (indexed c).attesting_indices ≤ 2048
few_indices c readable = let bits : length c.attestation.aggregation_bits ≤ max_validators_per_committee = readable.within.0.0.0.1 in let long = indices_long c in omega (arith, bits, long)

pair_size : (one other : CarriedAttestation) → IsWritable one → IsWritable other → length (attester_slashing_codec.serialize (record { attestation_1 = indexed one; attestation_2 = indexed other })) ≤ 33_232
unfolding joined fixed_parts variable_parts
pair_size one other a b =
    two_size _ _ (indexed_attestation_codec.serialize (indexed one)) (indexed_attestation_codec.serialize (indexed other)) (length (indexed one).attesting_indices) (length (indexed other).attesting_indices)
    (indexed_size one a) (indexed_size other b) (few_indices one a) (few_indices other b)

-- it has at most so many bytes
pub operation_size : (genesis : PlainState) (first second : List AcceptedBlock) (operation : AttesterSlashing) → IsOneOf operation (operations genesis first second)
    → All IsReadable (first ++ second) → length (attester_slashing_codec.serialize operation) ≤ 33_232
operation_size genesis first second operation h readable =
    let w = (operation_is genesis first second operation h).what in
    subst (λ (o : AttesterSlashing). length (attester_slashing_codec.serialize o) ≤ 33_232) (sym w.is) (pair_size w.one w.other (writable first second w.one readable w.one_listed) (writable first second w.other readable w.other_listed))

pub all_read : (genesis : PlainState) (first second : List AcceptedBlock) → All IsReadable (first ++ second)
    → All (λ (o : AttesterSlashing). attester_slashing_codec.deserialize (attester_slashing_codec.serialize o) ≡ Some o) (operations genesis first second)
all_read genesis first second readable = all_are (λ (o : AttesterSlashing). attester_slashing_codec.deserialize (attester_slashing_codec.serialize o) ≡ Some o) (operations genesis first second)
    (λ operation h. operation_read genesis first second operation h readable)

pub all_small : (genesis : PlainState) (first second : List AcceptedBlock) → All IsReadable (first ++ second)
    → All (λ (o : AttesterSlashing). length (attester_slashing_codec.serialize o) ≤ 33_232) (operations genesis first second)
all_small genesis first second readable = all_are (λ (o : AttesterSlashing). length (attester_slashing_codec.serialize o) ≤ 33_232) (operations genesis first second)
    (λ operation h. operation_size genesis first second operation h readable)
