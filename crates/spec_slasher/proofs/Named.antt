-- A carried vote names the carried attestation that it comes from.
use Rattle.std.proofs.Common.{◌≡◌, ◌∙◌, ℕ, ◌<◌, inl, inr, Bool, true, nat_lt, List, [], ◌∷◌, length, Option, Some, None, is_some, sym, ap, subst, refl}
use Rattle.std.specs.List.{Contains, find, enumerate_from}
use Rattle.std.specs.Option.{option_map}
use Rattle.std.specs.Bool.{Decides}
use Rattle.std.specs.Cmp.{unsigned_Decides}
use Rattle.std.specs.Cmp.Lexicographic.{bytes_decides}
use Rattle.std.proofs.lemmas.Bool.{lt-ltb, ltb-true}
use Rattle.std.proofs.lemmas.Bool.Decides.{Decides-and, Decides-like}
use Rattle.beacon_types.proofs.Equality.{data_decides}
use Rattle.ffg_law.specs.Links.{IsOneOf}
use Rattle.spec_state.specs.declared.plain.PlainState.{PlainState}
use Rattle.spec_state.specs.Accessors.{get_attesting_indices}
use Rattle.spec_forensics.specs.declared.vote.Vote.{Vote}
use Rattle.spec_forensics.specs.Histories.{AcceptedBlock}
use Rattle.spec_forensics.specs.CarriedVotes.{votes_of_attestation, votes_of_block, carried_votes, all_votes}
use Rattle.spec_slasher.specs.AttestationOf.{CarriedAttestation, attestations_of_block, carried_attestations, all_attestations, votes_of, same_vote, names, indexed, attestation_of}
use Rattle.spec_slasher.proofs.Lists.{one_of, contained, in_first, in_second, in_map, in_filter, in_flat_map, of_append, of_map, of_flat_map, of_filter, finds, of_find, value_of, to_any, of_any}

-- who attested, in the committee's order
unfoldable pub attesters_of : CarriedAttestation → List ℕ
attesters_of c = get_attesting_indices c.accepted.state c.attestation.content c.attestation.aggregation_bits

-- an attester's vote
unfoldable pub vote_at : CarriedAttestation → ℕ → Vote
vote_at c i = record { which = c.which; event = c.accepted.event; position = c.position; block_root = c.accepted.root; validator = i; content = c.attestation.content }

-- a vote and the attestation that it comes from
pub record ComesFrom (genesis : PlainState) (v : Vote) (c : CarriedAttestation) : Type 0 where
  pub low : v.validator < length genesis.validators
  pub attests : IsOneOf v.validator (attesters_of c)
  pub is : vote_at c v.validator ≡ v

-- it is one of its votes
pub from_votes : (genesis : PlainState) (v : Vote) (c : CarriedAttestation) → IsOneOf v (votes_of genesis c) → ComesFrom genesis v c
unfolding votes_of votes_of_attestation attesters_of vote_at
from_votes genesis v c h =
    let m = of_map _ v _ h in
    let f = of_filter _ m.at _ m.listed in
    let by : m.at ≡ v.validator = ap (λ (w : Vote). w.validator) m.is in
    record {
      low = subst (λ (n : ℕ). n < length genesis.validators) by (ltb-true _ _ f.1);
      attests = subst (λ (n : ℕ). IsOneOf n (attesters_of c)) by f.0;
      is = ap (vote_at c) (sym by) ∙ m.is;
    }

vote_in : (genesis : PlainState) (c : CarriedAttestation) (i : ℕ) → IsOneOf i (attesters_of c) → i < length genesis.validators → IsOneOf (vote_at c i) (votes_of genesis c)
unfolding votes_of votes_of_attestation attesters_of vote_at
vote_in genesis c i attests low = in_map (vote_at c) i _ (in_filter (λ validator. nat_lt validator (length genesis.validators)) i _ (lt-ltb _ _ low) attests)

pub into_votes : (genesis : PlainState) (v : Vote) (c : CarriedAttestation) → ComesFrom genesis v c → IsOneOf v (votes_of genesis c)
into_votes genesis v c from = subst (λ (w : Vote). IsOneOf w (votes_of genesis c)) from.is (vote_in genesis c v.validator from.attests from.low)

-- ---- the votes of blocks are those of their attestations

-- an attestation that has a vote
record HasVote (genesis : PlainState) (v : Vote) (all : List CarriedAttestation) : Type 0 where
  carried : CarriedAttestation
  listed : IsOneOf carried all
  cast : IsOneOf v (votes_of genesis carried)

in_block : (genesis : PlainState) (which : ℕ) (b : AcceptedBlock) (v : Vote) → IsOneOf v (votes_of_block genesis which b) → HasVote genesis v (attestations_of_block which b)
unfolding votes_of_block attestations_of_block votes_of
in_block genesis which b v h =
    let x = of_flat_map (votes_of_attestation genesis which b) v (enumerate_from 0 b.block.body.attestations) h in
    record {
      carried = record { which = which; accepted = b; position = x.at.0; attestation = x.at.1 };
      listed = in_map _ x.at (enumerate_from 0 b.block.body.attestations) x.listed;
      cast = x.inside;
    }

in_history : (genesis : PlainState) (which : ℕ) (blocks : List AcceptedBlock) (v : Vote) → IsOneOf v (carried_votes genesis which blocks) → HasVote genesis v (carried_attestations which blocks)
unfolding carried_votes carried_attestations
in_history genesis which [] v h = absurd h
in_history genesis which (b ∷ earlier) v h = elim (of_append v (carried_votes genesis which earlier) (votes_of_block genesis which b) h) [
  | inl before ↦
      let r = in_history genesis which earlier v before in
      record { carried = r.carried; listed = in_first r.carried (carried_attestations which earlier) (attestations_of_block which b) r.listed; cast = r.cast }
  | inr here ↦
      let r = in_block genesis which b v here in
      record { carried = r.carried; listed = in_second r.carried (carried_attestations which earlier) (attestations_of_block which b) r.listed; cast = r.cast }
]

in_all : (genesis : PlainState) (first second : List AcceptedBlock) (v : Vote) → IsOneOf v (all_votes genesis first second) → HasVote genesis v (all_attestations first second)
unfolding all_votes all_attestations
in_all genesis first second v h = elim (of_append v (carried_votes genesis 0 first) (carried_votes genesis 1 second) h) [
  | inl one ↦
      let r = in_history genesis 0 first v one in
      record { carried = r.carried; listed = in_first r.carried (carried_attestations 0 first) (carried_attestations 1 second) r.listed; cast = r.cast }
  | inr other ↦
      let r = in_history genesis 1 second v other in
      record { carried = r.carried; listed = in_second r.carried (carried_attestations 0 first) (carried_attestations 1 second) r.listed; cast = r.cast }
]

of_block : (genesis : PlainState) (which : ℕ) (b : AcceptedBlock) (c : CarriedAttestation) (v : Vote) → IsOneOf c (attestations_of_block which b) → IsOneOf v (votes_of genesis c) → IsOneOf v (votes_of_block genesis which b)
unfolding votes_of_block attestations_of_block votes_of
of_block genesis which b c v h cast =
    let x = of_map _ c (enumerate_from 0 b.block.body.attestations) h in
    in_flat_map (votes_of_attestation genesis which b) x.at v (enumerate_from 0 b.block.body.attestations) x.listed
    (subst (λ (k : CarriedAttestation). IsOneOf v (votes_of_attestation genesis k.which k.accepted (k.position, k.attestation))) (sym x.is) cast)

of_history : (genesis : PlainState) (which : ℕ) (blocks : List AcceptedBlock) (c : CarriedAttestation) (v : Vote) → IsOneOf c (carried_attestations which blocks) → IsOneOf v (votes_of genesis c) → IsOneOf v (carried_votes genesis which blocks)
unfolding carried_votes carried_attestations
of_history genesis which [] c v h cast = absurd h
of_history genesis which (b ∷ earlier) c v h cast = elim (of_append c (carried_attestations which earlier) (attestations_of_block which b) h) [
  | inl before ↦ in_first v (carried_votes genesis which earlier) (votes_of_block genesis which b) (of_history genesis which earlier c v before cast)
  | inr here ↦ in_second v (carried_votes genesis which earlier) (votes_of_block genesis which b) (of_block genesis which b c v here cast)
]

of_all : (genesis : PlainState) (first second : List AcceptedBlock) (c : CarriedAttestation) (v : Vote) → IsOneOf c (all_attestations first second) → IsOneOf v (votes_of genesis c) → IsOneOf v (all_votes genesis first second)
unfolding all_votes all_attestations
of_all genesis first second c v h cast = elim (of_append c (carried_attestations 0 first) (carried_attestations 1 second) h) [
  | inl one ↦ in_first v (carried_votes genesis 0 first) (carried_votes genesis 1 second) (of_history genesis 0 first c v one cast)
  | inr other ↦ in_second v (carried_votes genesis 0 first) (carried_votes genesis 1 second) (of_history genesis 1 second c v other cast)
]

-- each attester of a carried attestation that is in the genesis registry has its vote
pub has_vote : (genesis : PlainState) (first second : List AcceptedBlock) (c : CarriedAttestation) (i : ℕ) → IsOneOf c (all_attestations first second) → IsOneOf i (attesters_of c) → i < length genesis.validators
    → IsOneOf (vote_at c i) (all_votes genesis first second)
has_vote genesis first second c i h attests low = of_all genesis first second c (vote_at c i) h (vote_in genesis c i attests low)

-- ---- names

-- the fact first, so that its statement is known to what follows
like : {P Q : Type 0} {r : Bool} → Decides r P → (P → Q) → (Q → P) → Decides r Q
like d f g = Decides-like _ f g d

vote_decides : (a b : Vote) → Decides (same_vote a b) (a ≡ b)
unfolding same_vote
vote_decides a b =
    like
    (Decides-and _ _ (unsigned_Decides a.which b.which)
    (Decides-and _ _ (unsigned_Decides a.event b.event)
    (Decides-and _ _ (unsigned_Decides a.position b.position)
    (Decides-and _ _ (bytes_decides a.block_root b.block_root)
    (Decides-and _ _ (unsigned_Decides a.validator b.validator)
    (data_decides a.content b.content))))))
    (λ h i. record { which = h.0 i; event = h.1.0 i; position = h.1.1.0 i; block_root = h.1.1.1.0 i; validator = h.1.1.1.1.0 i; content = h.1.1.1.1.1 i })
    (λ e. (λ i. (e i).which, (λ i. (e i).event, (λ i. (e i).position, (λ i. (e i).block_root, (λ i. (e i).validator, λ i. (e i).content))))))

pub named : (genesis : PlainState) (v : Vote) (c : CarriedAttestation) → IsOneOf v (votes_of genesis c) → names genesis v c ≡ true
unfolding names
named genesis v c h = to_any (λ other. same_vote other v) v (votes_of genesis c) h ((vote_decides v v).1 refl)

pub cast_of : (genesis : PlainState) (v : Vote) (c : CarriedAttestation) → names genesis v c ≡ true → IsOneOf v (votes_of genesis c)
unfolding names
cast_of genesis v c is =
    let it = of_any (λ other. same_vote other v) (votes_of genesis c) is in
    subst (λ (w : Vote). IsOneOf w (votes_of genesis c)) ((vote_decides it.at v).0 it.passes) it.listed

-- a vote's attestation: what it names is found, and the vote comes from it
pub record IsAttestation (genesis : PlainState) (first second : List AcceptedBlock) (v : Vote) : Type 0 where
  pub carried : CarriedAttestation
  pub listed : IsOneOf carried (all_attestations first second)
  pub from : ComesFrom genesis v carried
  pub is : attestation_of genesis first second v ≡ Some (indexed carried)

pub has_attestation : (genesis : PlainState) (first second : List AcceptedBlock) (v : Vote) → IsOneOf v (all_votes genesis first second) → IsAttestation genesis first second v
unfolding attestation_of
has_attestation genesis first second v h =
    let s = in_all genesis first second v h in
    let f = finds (names genesis v) s.carried (all_attestations first second) s.listed (named genesis v s.carried s.cast) in
    record { carried = f.at; listed = f.listed; from = from_votes genesis v f.at (cast_of genesis v f.at f.passes); is = ap (option_map indexed) f.is }

-- ---- where there is none

abbrev some_of : {A B : Type 0} (f : A → B) (o : Option A) → is_some (option_map f o) ≡ true → is_some o ≡ true
some_of f (Some x) is = refl
some_of f None is = is

pub carried_where_named : (genesis : PlainState) (first second : List AcceptedBlock) (v : Vote) → is_some (attestation_of genesis first second v) ≡ true → Contains (all_votes genesis first second) v
unfolding attestation_of
carried_where_named genesis first second v is =
    let o = value_of (find (names genesis v) (all_attestations first second)) (some_of indexed (find (names genesis v) (all_attestations first second)) is) in
    let f = of_find (names genesis v) o.value (all_attestations first second) o.is in
    contained (all_votes genesis first second) v (of_all genesis first second o.value v f.0 (cast_of genesis v o.value f.1))

pub named_where_carried : (genesis : PlainState) (first second : List AcceptedBlock) (v : Vote) → Contains (all_votes genesis first second) v → is_some (attestation_of genesis first second v) ≡ true
named_where_carried genesis first second v h = ap is_some (has_attestation genesis first second v (one_of (all_votes genesis first second) v h)).is
