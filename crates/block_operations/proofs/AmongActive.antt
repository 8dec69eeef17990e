-- Whether somebody attested, by how many validators are active and by the published definitions.
use Rattle.std.proofs.Common.{◌≡◌, ℕ, zero, suc, ◌+◌, ◌≤◌, Bool, true, false, cond, not, nat_eq, List, [], ◌∷◌, length, drop, Result, Ok, Err, refl, sym, ap, ◌∙◌, ltb, arith}
use Rattle.std.specs.List.{list_any}
use Rattle.std.proofs.lemmas.Bool.{eqb-true, ne_eqb}
use Rattle.std.proofs.lemmas.List.FromFn.{length-map-range_with_len}
use Rattle.bc_words.specs.Outcome.{Outcome, done, refused, limited, bind, GivesExactly}
use Rattle.bc_words.specs.declared.refusal.Refusal.TheVariants.{AtIndex, AtBits}
use Rattle.bc_words.specs.declared.stop.Stop.{Stop}
use Rattle.bc_words.specs.declared.stop.Stop.TheVariants as stops
use Rattle.bc_preset.specs.Presets.{IsPreset}
use Rattle.beacon_types.specs.declared.attestation_data.AttestationData.{AttestationData}
use Rattle.beacon_types.specs.declared.attestation.Attestation.{Attestation}
use Rattle.committees.specs.Committees.{Committees, compute_committee, committee_count_per_slot, member_count}
use Rattle.committees.proofs.Parts.{active_are_members}
use Rattle.spec_state.specs.declared.plain.PlainState.{PlainState}
use Rattle.spec_state.specs.Misc.{compute_epoch_at_slot}
use Rattle.spec_state.specs.Accessors.{get_active_validator_indices, get_committee_count_per_slot, get_beacon_committee, get_attesting_indices, members_with_bits}
use Rattle.spec_state.specs.inside.EpochCommittees.{epoch_committees}
use Rattle.spec_blocks.specs.Checks.{check}
use Rattle.spec_blocks.specs.ProcessAttestation.{check_committee}
use Rattle.block_operations.specs.inside.Bits.{is_set}
use Rattle.block_operations.specs.inside.Attested.{is_attested, Attests}
use Rattle.block_operations.specs.inside.Counted.{committee_len, attested_with, attested_among}

-- ---- whether one of the bits is set

dropped : {A : Type 0} (i : ℕ) → drop i (let none : List A = [] in none) ≡ []
dropped zero = refl
dropped (suc i) = refl

none_set : (i : ℕ) → list_any (λ bit. bit) (drop i []) ≡ false
none_set i = ap (list_any (λ bit. bit)) (dropped i)

pub any_begin : (bits : List Bool) → list_any (λ bit. bit) (drop 0 bits) ≡ list_any (λ bit. bit) bits
any_begin bits = refl

pub any_here : (bits : List Bool) (i : ℕ) → is_set bits i ≡ true → list_any (λ bit. bit) (drop i bits) ≡ true
any_here [] i h = absurd cc
any_here (true ∷ bits) zero h = refl
any_here (false ∷ bits) zero h = absurd cc
any_here (bit ∷ bits) (suc i) h = any_here bits i h

pub any_next : (bits : List Bool) (i : ℕ) → is_set bits i ≡ false → list_any (λ bit. bit) (drop i bits) ≡ list_any (λ bit. bit) (drop (i + 1) bits)
any_next [] i h = none_set i ∙ sym (none_set (i + 1))
any_next (true ∷ bits) zero h = absurd cc
any_next (false ∷ bits) zero h = refl
any_next (bit ∷ bits) (suc i) h = any_next bits i h ∙ ap (λ k. list_any (λ b. b) (drop k (bit ∷ bits))) (let e : suc (i + 1) ≡ suc i + 1 = omega arith in e)

pub any_end : (bits : List Bool) (i : ℕ) → length bits ≤ i → list_any (λ bit. bit) (drop i bits) ≡ false
any_end [] i h = none_set i
any_end (bit ∷ bits) zero h = absurd (omega arith)
any_end (bit ∷ bits) (suc i) h = any_end bits i (omega arith)

some : (member : ℕ) (members : List ℕ) → not (nat_eq (length (member ∷ members)) 0) ≡ true
some member members = ap not (ne_eqb (length (member ∷ members)) 0 (λ (e : length (member ∷ members) ≡ 0). let no : ⊥ = omega arith in no))

-- as many bits as members: somebody attested where one is set
any_is : (committee : List ℕ) (bits : List Bool) → length bits ≡ length committee → list_any (λ bit. bit) bits ≡ not (nat_eq (length (members_with_bits committee bits)) 0)
unfolding members_with_bits
any_is [] [] e = refl
any_is [] (bit ∷ bits) e = absurd (omega arith)
any_is (member ∷ committee) [] e = absurd (omega arith)
any_is (member ∷ committee) (true ∷ bits) e = sym (some member (members_with_bits committee bits))
any_is (member ∷ committee) (false ∷ bits) e = any_is committee bits (omega arith)

-- ---- the published checks

-- the answer is that of a check with a value behind it
behind : (result : Result Bool Stop) (checked : Outcome (Unit {0})) (is_so : Bool) → GivesExactly result (bind checked (λ _. done is_so)) → Attests result checked is_so
behind (Ok attested) (done unit) is_so e = (ap done (let one : unit ≡ tt = refl in one), sym (let same : is_so ≡ attested = cc in same))
behind (Ok attested) (refused why) is_so e = absurd cc
behind (Ok attested) (limited bound) is_so e = absurd cc
behind (Err (stops.Refused why)) (done unit) is_so e = absurd cc
behind (Err (stops.Refused why)) (refused other) is_so e = let same : other ≡ why = cc in ap refused same
behind (Err (stops.Refused why)) (limited bound) is_so e = absurd cc
behind (Err (stops.Limit bound)) (done unit) is_so e = absurd cc
behind (Err (stops.Limit bound)) (refused why) is_so e = absurd cc
behind (Err (stops.Limit bound)) (limited other) is_so e = let same : other ≡ bound = cc in ap limited same
behind (Err stops.NoMemory) checked is_so e = e

abbrev flag : PlainState → AttestationData → List Bool → Bool
flag state content bits = not (nat_eq (length (get_attesting_indices state content bits)) 0)

behind_check : (holds x y : Bool) → (holds ≡ true → x ≡ y) → bind (check holds AtBits) (λ _. done x) ≡ bind (check holds AtBits) (λ _. done y)
behind_check true x y is = ap done (is refl)
behind_check false x y is = refl

with_committee : (committee : List ℕ) (bits : List Bool)
    → attested_with (length committee) bits ≡ bind (check (nat_eq (length bits) (length committee)) AtBits) (λ _. done (not (nat_eq (length (members_with_bits committee bits)) 0)))
with_committee committee bits = behind_check (nat_eq (length bits) (length committee)) _ _ (λ h. any_is committee bits (eqb-true _ _ h))

either_way : (committee : List ℕ) (bits : List Bool) (has : Bool)
    → cond has (attested_with (length committee) bits) (refused AtIndex) ≡ bind (bind (check has AtIndex) (λ _. check (nat_eq (length bits) (length committee)) AtBits)) (λ _. done (not (nat_eq (length (members_with_bits committee bits)) 0)))
either_way committee bits true = with_committee committee bits
either_way committee bits false = refl

-- the members of a committee, counted
len_here : (state : PlainState) (slot index : ℕ) → length (get_beacon_committee state slot index) ≡ committee_len state.preset (length (get_active_validator_indices state (compute_epoch_at_slot state.preset slot))) slot index
unfolding get_beacon_committee compute_committee get_committee_count_per_slot committee_len
len_here state slot index = length-map-range_with_len _ _ _

pub size_is : (state : PlainState) (slot index active size : ℕ) → active ≡ length (get_active_validator_indices state (compute_epoch_at_slot state.preset slot)) → size ≡ committee_len state.preset active slot index → size ≡ length (get_beacon_committee state slot index)
size_is state slot index active size active_is is = is ∙ ap (λ n. committee_len state.preset n slot index) active_is ∙ sym (len_here state slot index)

len_is : (state : PlainState) (epoch slot index : ℕ) → compute_epoch_at_slot state.preset slot ≡ epoch → length (get_beacon_committee state slot index) ≡ committee_len state.preset (length (get_active_validator_indices state epoch)) slot index
len_is state epoch slot index e = len_here state slot index ∙ ap (λ n. committee_len state.preset (length (get_active_validator_indices state n)) slot index) e

attested_is : (state : PlainState) (content : AttestationData) (bits : List Bool) → compute_epoch_at_slot state.preset content.slot ≡ content.target.epoch
    → attested_among state.preset (length (get_active_validator_indices state content.target.epoch)) content.slot content.index bits ≡ bind (check_committee state content bits) (λ _. done (flag state content bits))
unfolding check_committee get_committee_count_per_slot get_attesting_indices
attested_is state content bits slot =
    ap (λ n. cond (ltb content.index (committee_count_per_slot state.preset (length (get_active_validator_indices state content.target.epoch)))) (attested_with n bits) (refused AtIndex)) (sym (len_is state content.target.epoch content.slot content.index slot))
    ∙ either_way (get_beacon_committee state content.slot content.index) bits (ltb content.index (committee_count_per_slot state.preset (length (get_active_validator_indices state content.target.epoch))))

pub attests : (state : PlainState) (attestation : Attestation) (active : ℕ) (result : Result Bool Stop)
    → compute_epoch_at_slot state.preset attestation.content.slot ≡ attestation.content.target.epoch
    → active ≡ length (get_active_validator_indices state attestation.content.target.epoch)
    → GivesExactly result (attested_among state.preset active attestation.content.slot attestation.content.index attestation.aggregation_bits)
    → Attests result (check_committee state attestation.content attestation.aggregation_bits) (is_attested state attestation)
unfolding is_attested
attests state attestation active result slot is e =
    let same : attested_among state.preset active attestation.content.slot attestation.content.index attestation.aggregation_bits ≡ bind (check_committee state attestation.content attestation.aggregation_bits) (λ _. done (flag state attestation.content attestation.aggregation_bits)) =
    ap (λ n. attested_among state.preset n attestation.content.slot attestation.content.index attestation.aggregation_bits) is
    ∙ attested_is state attestation.content attestation.aggregation_bits slot in
    behind result (check_committee state attestation.content attestation.aggregation_bits) (flag state attestation.content attestation.aggregation_bits) (rw same at e)

-- the members of an epoch's committees are those who are active in it
pub members_are_active : (state : PlainState) (committees : Committees) (epoch : ℕ) → IsPreset state.preset → committees ≡ epoch_committees state epoch → member_count committees ≡ length (get_active_validator_indices state epoch)
members_are_active state committees epoch preset is = ap member_count is ∙ active_are_members state.preset _ (get_active_validator_indices state epoch) preset
