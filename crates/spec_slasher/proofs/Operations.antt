-- The operations' data are slashable in their order, and the common validators of the genesis registry are the offenders.
use Rattle.std.proofs.Common.{◌≡◌, ◌∙◌, ℕ, zero, suc, ◌<◌, ◌⊎◌, inl, inr, Bool, true, false, cond, List, [], ◌∷◌, ◌++◌, length, Some, refl, sym, ap, ap₂, subst, arith}
use Rattle.std.specs.List.{All, AllPairs, Contains, filter_map}
use Rattle.std.proofs.lemmas.Bool.{false≢true}
use Rattle.std.proofs.lemmas.Option.{same_Some}
use Rattle.beacon_types.specs.Slashable.{is_slashable_attestation_data}
use Rattle.beacon_types.specs.declared.attestation_data.AttestationData.{AttestationData}
use Rattle.beacon_types.specs.declared.attester_slashing.AttesterSlashing.{AttesterSlashing}
use Rattle.ffg_law.specs.Links.{IsOneOf}
use Rattle.spec_state.specs.declared.plain.PlainState.{PlainState}
use Rattle.spec_fork_choice.specs.SameBlock.{same_attester_slashing}
use Rattle.spec_fork_choice.proofs.SameBlock.{attester_slashing_decides}
use Rattle.spec_forensics.specs.declared.vote.Vote.{Vote}
use Rattle.spec_forensics.specs.declared.offence.Offence.{Offence}
use Rattle.spec_forensics.specs.Histories.{AcceptedBlock}
use Rattle.spec_forensics.specs.CarriedVotes.{all_votes}
use Rattle.spec_forensics.specs.Offences.{offence_of}
use Rattle.spec_forensics.specs.Verdict.{offences_of}
use Rattle.spec_slasher.specs.GetIndexedAttestation.{get_indexed_attestation}
use Rattle.spec_slasher.specs.AttestationOf.{CarriedAttestation, all_attestations, indexed}
use Rattle.spec_slasher.specs.Operations.{pair_of, operation_of, is_listed, each_once, operations, HasOperation, offenders, IsCommon, IsNamed}
use Rattle.spec_slasher.proofs.Lists.{one_of, contained, all_are, in_first, in_second, in_map, of_append, of_map, of_filter_map, in_filter_map, of_any, to_any, value_of, into_order, of_order}
use Rattle.spec_slasher.proofs.Named.{attesters_of, vote_at, ComesFrom, has_vote, has_attestation}
use Rattle.spec_slasher.proofs.Offences.{IsOffence, offence_is, VoteFor, offends, of_offences, in_offences}

-- what an operation is: two carried attestations, slashable in this order, and a validator of the genesis registry that attested both
pub record IsOperation (genesis : PlainState) (first second : List AcceptedBlock) (i : ℕ) (operation : AttesterSlashing) : Type 0 where
  pub one : CarriedAttestation
  pub other : CarriedAttestation
  pub one_listed : IsOneOf one (all_attestations first second)
  pub other_listed : IsOneOf other (all_attestations first second)
  pub is : operation ≡ record { attestation_1 = indexed one; attestation_2 = indexed other }
  pub slashable : is_slashable_attestation_data one.attestation.content other.attestation.content ≡ true
  pub low : i < length genesis.validators
  pub in_one : IsOneOf i (attesters_of one)
  pub in_other : IsOneOf i (attesters_of other)

record Made (genesis : PlainState) (first second : List AcceptedBlock) (i : ℕ) (o : Offence) : Type 0 where
  operation : AttesterSlashing
  is : operation_of genesis first second o ≡ Some operation
  what : IsOperation genesis first second i operation

content_of : (genesis : PlainState) (v : Vote) (c : CarriedAttestation) → ComesFrom genesis v c → v.content ≡ c.attestation.content
unfolding vote_at
content_of genesis v c from = sym (ap (λ (w : Vote). w.content) from.is)

-- each offence has its operation
made : (genesis : PlainState) (first second : List AcceptedBlock) (i : ℕ) (o : Offence) → IsOffence (all_votes genesis first second) i o → Made genesis first second i o
unfolding operation_of pair_of
made genesis first second i o offence =
    let one = has_attestation genesis first second o.first offence.first in
    let other = has_attestation genesis first second o.second offence.second in
    record {
      operation = record { attestation_1 = indexed one.carried; attestation_2 = indexed other.carried };
      is = ap₂ pair_of one.is other.is;
      what = record {
        one = one.carried;
        other = other.carried;
        one_listed = one.listed;
        other_listed = other.listed;
        is = refl;
        slashable = subst (λ (d : AttestationData). is_slashable_attestation_data d other.carried.attestation.content ≡ true) (content_of genesis o.first one.carried one.from)
            (subst (λ (d : AttestationData). is_slashable_attestation_data o.first.content d ≡ true) (content_of genesis o.second other.carried other.from) offence.slashable);
        low = subst (λ (n : ℕ). n < length genesis.validators) offence.first_by one.from.low;
        in_one = subst (λ (n : ℕ). IsOneOf n (attesters_of one.carried)) offence.first_by one.from.attests;
        in_other = subst (λ (n : ℕ). IsOneOf n (attesters_of other.carried)) offence.second_by other.from.attests;
      };
    }

-- ---- the list of those that are left

of_kept : (p : Bool) (x y : AttesterSlashing) (one other : List AttesterSlashing) → IsOneOf y (cond p one (x ∷ other)) → (IsOneOf y one ⊎ ((x ≡ y) ⊎ IsOneOf y other))
of_kept true x y one other h = inl h
of_kept false x y one other h = inr h

of_once : (xs before : List AttesterSlashing) (y : AttesterSlashing) → IsOneOf y (each_once before xs) → IsOneOf y xs
unfolding each_once
of_once [] before y h = h
of_once (x ∷ xs) before y h = elim (of_kept (is_listed before x) x y (each_once before xs) (each_once (before ++ x ∷ []) xs) h) [
  | inl more ↦ inr (of_once xs before y more)
  | inr new ↦ elim new [ inl e ↦ inl e | inr more ↦ inr (of_once xs (before ++ x ∷ []) y more) ]
]

into_kept : (p : Bool) (x y : AttesterSlashing) (before one other : List AttesterSlashing) → ((p ≡ true) → IsOneOf y before ⊎ IsOneOf y one) → ((p ≡ false) → IsOneOf y before ⊎ ((x ≡ y) ⊎ IsOneOf y other)) → IsOneOf y before ⊎ IsOneOf y (cond p one (x ∷ other))
into_kept true x y before one other holds fails_it = holds refl
into_kept false x y before one other holds fails_it = fails_it refl

was_before : (before : List AttesterSlashing) (x : AttesterSlashing) → is_listed before x ≡ true → IsOneOf x before
unfolding is_listed
was_before before x any = let it = of_any (λ other. same_attester_slashing other x) before any in subst (λ (k : AttesterSlashing). IsOneOf k before) ((attester_slashing_decides it.at x).0 it.passes) it.listed

in_once : (xs before : List AttesterSlashing) (y : AttesterSlashing) → IsOneOf y xs → IsOneOf y before ⊎ IsOneOf y (each_once before xs)
unfolding each_once
in_once [] before y h = absurd h
in_once (x ∷ xs) before y h =
    into_kept (is_listed before x) x y before (each_once before xs) (each_once (before ++ x ∷ []) xs)
    (λ seen. elim h [ inl e ↦ inl (subst (λ (k : AttesterSlashing). IsOneOf k before) e (was_before before x seen)) | inr more ↦ in_once xs before y more ])
    (λ new. elim h [
      | inl e ↦ inr (inl e)
      | inr more ↦ elim (in_once xs (before ++ x ∷ []) y more) [
        | inl k ↦ elim (of_append y before (x ∷ []) k) [ inl old ↦ inl old | inr last ↦ elim last [ inl e ↦ inr (inl e) | inr none ↦ absurd none ] ]
        | inr rest ↦ inr (inr rest)
      ]
    ])

none_before : (y : AttesterSlashing) (ys : List AttesterSlashing) → IsOneOf y [] ⊎ IsOneOf y ys → IsOneOf y ys
none_before y ys (inl none) = absurd none
none_before y ys (inr h) = h

-- ---- none stands there twice

pairs_more : (x : AttesterSlashing) (xs : List AttesterSlashing) → All (λ y. x ≡ y → ⊥) xs → AllPairs (λ a b. a ≡ b → ⊥) xs → AllPairs (λ a b. a ≡ b → ⊥) (x ∷ xs)
pairs_more x xs first rest i zero d less low = absurd (omega (arith, less))
pairs_more x xs first rest zero (suc j) d less low = first j d (omega (arith, low))
pairs_more x xs first rest (suc i) (suc j) d less low = rest i j d (omega (arith, less)) (omega (arith, low))

new_one : (before : List AttesterSlashing) (x y : AttesterSlashing) → is_listed before x ≡ false → IsOneOf y before → x ≡ y → ⊥
unfolding is_listed
new_one before x y new h same =
    false≢true (sym new ∙ to_any (λ other. same_attester_slashing other x) y before h ((attester_slashing_decides y x).1 (sym same)))

-- what is left is none of those before
record IsRest (before rest : List AttesterSlashing) : Type 0 where
  new : (x y : AttesterSlashing) → IsOneOf x rest → IsOneOf y before → x ≡ y → ⊥
  once : AllPairs (λ a b. a ≡ b → ⊥) rest

rest_either : (p : Bool) (x : AttesterSlashing) (before one other : List AttesterSlashing) → ((p ≡ true) → IsRest before one) → ((p ≡ false) → IsRest before (x ∷ other)) → IsRest before (cond p one (x ∷ other))
rest_either true x before one other seen new = seen refl
rest_either false x before one other seen new = new refl

rest_more : (x : AttesterSlashing) (before other : List AttesterSlashing) → is_listed before x ≡ false → IsRest (before ++ x ∷ []) other → IsRest before (x ∷ other)
rest_more x before other new rest = record {
  new = λ y z h k. elim h [
    | inl e ↦ λ same. new_one before x z new k (e ∙ same)
    | inr more ↦ rest.new y z more (in_first z before (x ∷ []) k)
  ];
  once = pairs_more x other (all_are (λ y. x ≡ y → ⊥) other (λ y h same. rest.new y x h (in_second x before (x ∷ []) (inl refl)) (sym same))) rest.once;
}

rest_is : (xs before : List AttesterSlashing) → IsRest before (each_once before xs)
unfolding each_once
rest_is [] before = record { new = λ x y h. absurd h; once = λ i j d less low. absurd (omega (arith, low)) }
rest_is (x ∷ xs) before =
    rest_either (is_listed before x) x before (each_once before xs) (each_once (before ++ x ∷ []) xs)
    (λ seen. rest_is xs before) (λ new. rest_more x before (each_once (before ++ x ∷ []) xs) new (rest_is xs (before ++ x ∷ [])))

pub all_differ : (genesis : PlainState) (first second : List AcceptedBlock) → AllPairs (λ (a b : AttesterSlashing). a ≡ b → ⊥) (operations genesis first second)
unfolding operations
all_differ genesis first second = (rest_is (filter_map (operation_of genesis first second) (offences_of genesis first second)) []).once

-- ---- the operations

-- each operation is that of an offender
pub record IsListed (genesis : PlainState) (first second : List AcceptedBlock) (operation : AttesterSlashing) : Type 0 where
  pub index : ℕ
  pub what : IsOperation genesis first second index operation

pub operation_is : (genesis : PlainState) (first second : List AcceptedBlock) (operation : AttesterSlashing) → IsOneOf operation (operations genesis first second) → IsListed genesis first second operation
unfolding operations offences_of
operation_is genesis first second operation h =
    let votes : List Vote = all_votes genesis first second in
    let raw = of_once _ [] operation h in
    let source = of_filter_map (operation_of genesis first second) operation (offences_of genesis first second) raw in
    let offence = of_offences votes (length genesis.validators) source.at source.listed in
    let m = made genesis first second offence.at source.at (offence_is votes offence.at source.at offence.is) in
    record { index = offence.at; what = subst (IsOperation genesis first second offence.at) (same_Some _ _ (sym m.is ∙ source.is)) m.what }

-- each offence has one
pub has_operation : (genesis : PlainState) (first second : List AcceptedBlock) (offence : Offence) → IsOneOf offence (offences_of genesis first second) → HasOperation genesis first second offence
unfolding operations offences_of
has_operation genesis first second offence h =
    let votes : List Vote = all_votes genesis first second in
    let below = of_offences votes (length genesis.validators) offence h in
    let m = made genesis first second below.at offence (offence_is votes below.at offence below.is) in
    let raw = in_filter_map (operation_of genesis first second) offence m.operation (offences_of genesis first second) h m.is in
    record { operation = m.operation; is = m.is; listed = contained (operations genesis first second) m.operation (none_before m.operation _ (in_once _ [] m.operation raw)) }

pub all_have : (genesis : PlainState) (first second : List AcceptedBlock) → All (HasOperation genesis first second) (offences_of genesis first second)
all_have genesis first second = all_are (HasOperation genesis first second) (offences_of genesis first second) (has_operation genesis first second)

-- the data are slashable in the given order
pub operation_slashable : (genesis : PlainState) (first second : List AcceptedBlock) (operation : AttesterSlashing) → IsOneOf operation (operations genesis first second)
    → is_slashable_attestation_data operation.attestation_1.content operation.attestation_2.content ≡ true
unfolding indexed get_indexed_attestation
operation_slashable genesis first second operation h =
    let l = operation_is genesis first second operation h in
    subst (λ (o : AttesterSlashing). is_slashable_attestation_data o.attestation_1.content o.attestation_2.content ≡ true) (sym l.what.is) l.what.slashable

pub all_slashable : (genesis : PlainState) (first second : List AcceptedBlock) → All (λ (o : AttesterSlashing). is_slashable_attestation_data o.attestation_1.content o.attestation_2.content ≡ true) (operations genesis first second)
all_slashable genesis first second = all_are (λ (o : AttesterSlashing). is_slashable_attestation_data o.attestation_1.content o.attestation_2.content ≡ true) (operations genesis first second) (operation_slashable genesis first second)

vote_for : (genesis : PlainState) (first second : List AcceptedBlock) (c : CarriedAttestation) (i : ℕ) → IsOneOf c (all_attestations first second) → IsOneOf i (attesters_of c) → i < length genesis.validators → VoteFor (all_votes genesis first second) i c.attestation.content
unfolding vote_at
vote_for genesis first second c i there attests low = record { vote = vote_at c i; cast = has_vote genesis first second c i there attests low; by = refl; content = refl }

-- a common validator of the genesis registry is an offender
pub common_offends : (genesis : PlainState) (first second : List AcceptedBlock) (i : ℕ) → i < length genesis.validators → IsNamed (operations genesis first second) i → Contains (offenders genesis first second) i
unfolding indexed get_indexed_attestation offenders offences_of attesters_of
common_offends genesis first second i low n =
    let votes : List Vote = all_votes genesis first second in
    let l = operation_is genesis first second n.operation (one_of (operations genesis first second) n.operation n.listed) in
    let w = l.what in
    let c = subst (λ (o : AttesterSlashing). IsCommon o i) w.is n.common in
    let one = vote_for genesis first second w.one i w.one_listed (of_order i (attesters_of w.one) (one_of _ i c.first)) low in
    let other = vote_for genesis first second w.other i w.other_listed (of_order i (attesters_of w.other) (one_of _ i c.second)) low in
    let o = value_of (offence_of votes i) (offends votes i w.one.attestation.content w.other.attestation.content one other w.slashable) in
    let by : o.value.validator ≡ i = (offence_is votes i o.value o.is).by in
    let there = in_map (λ (o : Offence). o.validator) o.value (offences_of genesis first second) (in_offences votes (length genesis.validators) i o.value low o.is) in
    contained (offenders genesis first second) i (subst (λ (k : ℕ). IsOneOf k (offenders genesis first second)) by there)

-- and an offender is in that registry, and a common validator
pub offender_named : (genesis : PlainState) (first second : List AcceptedBlock) (i : ℕ) → Contains (offenders genesis first second) i → i < length genesis.validators × IsNamed (operations genesis first second) i
unfolding operations offenders offences_of indexed get_indexed_attestation attesters_of
offender_named genesis first second i h =
    let votes : List Vote = all_votes genesis first second in
    let source = of_map (λ (o : Offence). o.validator) i (offences_of genesis first second) (one_of (offenders genesis first second) i h) in
    let below = of_offences votes (length genesis.validators) source.at source.listed in
    let offence = offence_is votes below.at source.at below.is in
    let same : below.at ≡ i = sym offence.by ∙ source.is in
    let m = made genesis first second below.at source.at offence in
    let w = subst (λ (k : ℕ). IsOperation genesis first second k m.operation) same m.what in
    let raw = in_filter_map (operation_of genesis first second) source.at m.operation (offences_of genesis first second) source.listed m.is in (
      w.low,
      record {
        operation = m.operation;
        listed = contained (operations genesis first second) m.operation (none_before m.operation _ (in_once _ [] m.operation raw));
        common = subst (λ (o : AttesterSlashing). IsCommon o i) (sym w.is) (record { first = contained _ i (into_order i (attesters_of w.one) w.in_one); second = contained _ i (into_order i (attesters_of w.other) w.in_other) });
      },
    )
