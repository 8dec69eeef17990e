-- A vote names one attestation, where each block of a history has an event of its own.
use Rattle.std.proofs.Common.{◌≡◌, ◌∙◌, ℕ, ◌+◌, ◌<◌, ◌≤◌, inl, inr, true, List, [], ◌∷◌, Some, sym, ap, ap₂, subst, arith}
use Rattle.std.specs.List.{Contains, enumerate_from}
use Rattle.beacon_types.specs.declared.attestation.Attestation.{Attestation}
use Rattle.ffg_law.specs.Links.{IsOneOf}
use Rattle.spec_state.specs.declared.plain.PlainState.{PlainState}
use Rattle.spec_forensics.specs.declared.vote.Vote.{Vote}
use Rattle.spec_forensics.specs.Histories.{AcceptedBlock}
use Rattle.spec_forensics.specs.CarriedVotes.{all_votes}
use Rattle.spec_slasher.specs.GetIndexedAttestation.{get_indexed_attestation}
use Rattle.spec_slasher.specs.AttestationOf.{CarriedAttestation, all_attestations, AreInOrder, names, indexed, attestation_of}
use Rattle.spec_slasher.proofs.Lists.{one_of, each_is}
use Rattle.spec_slasher.proofs.Stands.{IsPlaced, placed_either}
use Rattle.spec_slasher.proofs.Named.{vote_at, ComesFrom, has_vote, from_votes, cast_of, has_attestation}

from_low : (n p : ℕ) (a : Attestation) (xs : List Attestation) → IsOneOf (p, a) (enumerate_from n xs) → n ≤ p
from_low n p a [] h = absurd h
from_low n p a (x ∷ xs) (inl e) = let same : n ≡ p = ap (λ (k : ℕ × Attestation). k.0) e in omega (arith, same)
from_low n p a (x ∷ xs) (inr h) = let less = from_low (n + 1) p a xs h in omega (arith, less)

one_place : (n p : ℕ) (a b : Attestation) (xs : List Attestation) → IsOneOf (p, a) (enumerate_from n xs) → IsOneOf (p, b) (enumerate_from n xs) → a ≡ b
one_place n p a b [] h k = absurd h
one_place n p a b (x ∷ xs) (inl e) (inl f) = sym (ap (λ (k : ℕ × Attestation). k.1) e) ∙ ap (λ (k : ℕ × Attestation). k.1) f
one_place n p a b (x ∷ xs) (inl e) (inr k) = let same : n ≡ p = ap (λ (k : ℕ × Attestation). k.0) e in let less = from_low (n + 1) p b xs k in absurd (omega (arith, same, less))
one_place n p a b (x ∷ xs) (inr h) (inl f) = let same : n ≡ p = ap (λ (k : ℕ × Attestation). k.0) f in let less = from_low (n + 1) p a xs h in absurd (omega (arith, same, less))
one_place n p a b (x ∷ xs) (inr h) (inr k) = one_place (n + 1) p a b xs h k

-- an event accepted one block
one_block : (blocks : List AcceptedBlock) (x y : AcceptedBlock) → AreInOrder blocks → IsOneOf x blocks → IsOneOf y blocks → x.event ≡ y.event → x ≡ y
one_block [] x y rise h k same = absurd h
one_block (b ∷ earlier) x y rise (inl e) (inl f) same = sym e ∙ f
one_block (b ∷ earlier) x y rise (inl e) (inr k) same =
    let less : y.event < b.event = each_is (λ (a : AcceptedBlock). a.event < b.event) earlier rise.0 y k in
    let is : b.event ≡ x.event = ap (λ (a : AcceptedBlock). a.event) e in
    absurd (omega (arith, less, is, same))
one_block (b ∷ earlier) x y rise (inr h) (inl f) same =
    let less : x.event < b.event = each_is (λ (a : AcceptedBlock). a.event < b.event) earlier rise.0 x h in
    let is : b.event ≡ y.event = ap (λ (a : AcceptedBlock). a.event) f in
    absurd (omega (arith, less, is, same))
one_block (b ∷ earlier) x y rise (inr h) (inr k) same = one_block earlier x y rise.1 h k same

same_indexed : (which : ℕ) (blocks : List AcceptedBlock) (c d : CarriedAttestation) → AreInOrder blocks → IsPlaced which blocks c → IsPlaced which blocks d → c.accepted.event ≡ d.accepted.event → c.position ≡ d.position → indexed c ≡ indexed d
unfolding indexed
same_indexed which blocks c d rise one other event place =
    let block : c.accepted ≡ d.accepted = one_block blocks c.accepted d.accepted rise one.accepted other.accepted event in
    let here = subst (λ (p : ℕ). IsOneOf (p, c.attestation) (enumerate_from 0 c.accepted.block.body.attestations)) place one.at in
    let there = subst (λ (b : AcceptedBlock). IsOneOf (d.position, d.attestation) (enumerate_from 0 b.block.body.attestations)) (sym block) other.at in
    ap₂ (λ (b : AcceptedBlock) (a : Attestation). get_indexed_attestation b.state a) block (one_place 0 d.position c.attestation d.attestation c.accepted.block.body.attestations here there)

apart : (m n : ℕ) → m ≡ 0 → n ≡ 1 → m ≡ n → ⊥
apart m n a b same = omega (arith, a, b, same)

-- what a vote names is the attestation of each place that it comes from
comes_from_one : (genesis : PlainState) (first second : List AcceptedBlock) (v : Vote) (c : CarriedAttestation) → AreInOrder first → AreInOrder second → IsOneOf c (all_attestations first second) → ComesFrom genesis v c
    → attestation_of genesis first second v ≡ Some (indexed c)
unfolding vote_at
comes_from_one genesis first second v c one other there from =
    let vote = subst (λ (w : Vote). IsOneOf w (all_votes genesis first second)) from.is (has_vote genesis first second c v.validator there from.attests from.low) in
    let has = has_attestation genesis first second v vote in
    let d = has.carried in
    let votes : vote_at d v.validator ≡ vote_at c v.validator = has.from.is ∙ sym from.is in
    let event : d.accepted.event ≡ c.accepted.event = ap (λ (w : Vote). w.event) votes in
    let place : d.position ≡ c.position = ap (λ (w : Vote). w.position) votes in
    let which : d.which ≡ c.which = ap (λ (w : Vote). w.which) votes in
    has.is ∙ ap Some (elim (placed_either first second d has.listed) [
      | inl x ↦ elim (placed_either first second c there) [
        | inl y ↦ same_indexed 0 first d c one x y event place
        | inr y ↦ absurd (apart d.which c.which x.which_is y.which_is which)
      ]
      | inr x ↦ elim (placed_either first second c there) [
        | inl y ↦ absurd (apart c.which d.which y.which_is x.which_is (sym which))
        | inr y ↦ same_indexed 1 second d c other x y event place
      ]
    ])

pub only_attestation : (genesis : PlainState) (first second : List AcceptedBlock) (v : Vote) (c : CarriedAttestation) → AreInOrder first → AreInOrder second → Contains (all_attestations first second) c → names genesis v c ≡ true
    → attestation_of genesis first second v ≡ Some (indexed c)
only_attestation genesis first second v c one other there is =
    comes_from_one genesis first second v c one other (one_of (all_attestations first second) c there) (from_votes genesis v c (cast_of genesis v c is))
