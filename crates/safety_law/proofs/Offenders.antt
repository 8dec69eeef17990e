-- A validator that cast two carried votes that nobody may cast both is an offender.
use Rattle.std.proofs.Common.{◌≡◌, ◌∙◌, ℕ, zero, suc, ◌+◌, ◌<◌, ◌⊎◌, inl, inr, Bool, true, false, cond, ◌||◌, ◌==◌, nat_lt, List, [], ◌∷◌, ◌++◌, map, length, Option, Some, None, is_some, if◌then◌else◌, refl, sym, ap, subst, arith}
use Rattle.std.specs.List.{Contains, find, filter, enumerate_from}
use Rattle.std.specs.Option.{option_map}
use Rattle.std.proofs.lemmas.Bool.{eq-eqb, lt-ltb, false≢true, cases_lt}
use Rattle.std.proofs.lemmas.List.{map-append}
use Rattle.beacon_types.specs.declared.attestation_data.AttestationData.{AttestationData}
use Rattle.beacon_types.specs.declared.validator.Validator.{Validator}
use Rattle.beacon_types.specs.Slashable.{is_slashable_attestation_data}
use Rattle.spec_state.specs.declared.plain.PlainState.{PlainState}
use Rattle.spec_state.specs.Accessors.{get_attesting_indices, get_active_validator_indices, indices_from}
use Rattle.spec_state.specs.Predicates.{is_active_validator}
use Rattle.ffg_law.specs.declared.link.Link.{Link}
use Rattle.ffg_law.specs.Links.{IsOneOf}
use Rattle.ffg_law.specs.Weights.{among}
use Rattle.spec_forensics.specs.declared.vote.Vote.{Vote}
use Rattle.spec_forensics.specs.declared.offence.Offence.{Offence}
use Rattle.spec_forensics.specs.Histories.{AcceptedBlock}
use Rattle.spec_forensics.specs.FirstPair.{pair_or, first_pair}
use Rattle.spec_forensics.specs.CarriedVotes.{votes_of_attestation, votes_of_block, carried_votes}
use Rattle.spec_forensics.specs.Offences.{are_slashable, slashable_pair, kind_of, surrounds, offence_by, offence_of, listed, offences_below}
use Rattle.vote_law.specs.Backed.{IsListed}
use Rattle.vote_law.specs.Runs.{HasVoted}
use Rattle.safety_law.proofs.Lists.{first_of, later_of, none_of_none, first_or_later, in_first, in_second, in_map, in_filter, in_flat_map}
use Rattle.safety_law.proofs.Chains.{AreOf}
use Rattle.safety_law.proofs.Goes.{CarriedBy}
use Rattle.safety_law.proofs.Links.{among_of}

record Placed {A : Type 0} (x : A) (n : ℕ) (xs : List A) : Type 0 where
  at : ℕ
  is_there : IsOneOf (at, x) (enumerate_from n xs)

placed : {A : Type 0} (x : A) (n : ℕ) (xs : List A) → IsOneOf x xs → Placed x n xs
placed x n [] h = absurd h
placed x n (y ∷ ys) (inl e) = record { at = n; is_there = inl (ap (λ k. (n, k)) e) }
placed x n (y ∷ ys) (inr h) = let r = placed x (n + 1) ys h in record { at = r.at; is_there = inr r.is_there }

-- ---- carried votes

-- a vote of a validator for data
pub record VoteFor (votes : List Vote) (validator : ℕ) (voted : AttestationData) : Type 0 where
  pub vote : Vote
  pub cast : IsOneOf vote votes
  pub by : vote.validator ≡ validator
  pub content : vote.content ≡ voted

below_either : (p : Bool) (low n i : ℕ) (xs : List ℕ) → (IsOneOf i xs → i < low + 1 + n) → IsOneOf i (cond p (low ∷ xs) xs) → i < low + suc n
below_either true low n i xs rest (inl e) = omega arith
below_either true low n i xs rest (inr h) = let less = rest h in omega arith
below_either false low n i xs rest h = let less = rest h in omega arith

below_end : (test : Validator → Bool) (low : ℕ) (vs : List Validator) (i : ℕ) → IsOneOf i (indices_from test low vs) → i < low + length vs
unfolding indices_from
below_end test low [] i h = absurd h
below_end test low (v ∷ vs) i h = below_either (test v) low (length vs) i (indices_from test (suc low) vs) (λ k. let less = below_end test (suc low) vs i k in omega arith) h

-- who is active at genesis is in its registry
pub active_is_low : (genesis : PlainState) (i : ℕ) → IsOneOf i (get_active_validator_indices genesis 0) → i < length genesis.validators
unfolding get_active_validator_indices
active_is_low genesis i active = let low = below_end (λ v. is_active_validator v 0) 0 genesis.validators i active in omega arith

vote_of_block : (genesis : PlainState) (which : ℕ) (b : AcceptedBlock) (voted : AttestationData) (attesters : List ℕ) (i : ℕ) → IsListed b.block.body.attestations b.state voted attesters → IsOneOf i attesters → i < length genesis.validators
    → VoteFor (votes_of_block genesis which b) i voted
unfolding votes_of_block votes_of_attestation
vote_of_block genesis which b voted attesters i carried attests low =
    let a = carried.attestation in
    let p = placed a 0 b.block.body.attestations carried.listed in
    let same : get_attesting_indices b.state a.content a.aggregation_bits ≡ attesters = ap (λ (d : AttestationData). get_attesting_indices b.state d a.aggregation_bits) carried.content ∙ carried.attest in
    let make : ℕ → Vote = λ (validator : ℕ). record { which = which; event = b.event; position = p.at; block_root = b.root; validator = validator; content = a.content } in
    let here : IsOneOf i (get_attesting_indices b.state a.content a.aggregation_bits) = subst (λ (xs : List ℕ). IsOneOf i xs) (sym same) attests in
    record {
      vote = make i;
      cast = in_flat_map (votes_of_attestation genesis which b) (p.at, a) (make i) (enumerate_from 0 b.block.body.attestations) p.is_there
          (in_map make i _ (in_filter (λ validator. nat_lt validator (length genesis.validators)) i _ (lt-ltb i (length genesis.validators) low) here));
      by = refl;
      content = carried.content;
    }

-- the votes of a block of a history are carried
block_carried : (genesis : PlainState) (which : ℕ) (blocks : List AcceptedBlock) (b : AcceptedBlock) (v : Vote) → Contains blocks b → IsOneOf v (votes_of_block genesis which b) → IsOneOf v (carried_votes genesis which blocks)
unfolding carried_votes
block_carried genesis which [] b v there cast = absurd (none_of_none b there)
block_carried genesis which (c ∷ earlier) b v there cast = elim (first_or_later c earlier b there) [
  | inl is ↦ in_second v (carried_votes genesis which earlier) (votes_of_block genesis which c) (subst (λ (k : AcceptedBlock). IsOneOf v (votes_of_block genesis which k)) (sym is) cast)
  | inr later ↦ in_first v (carried_votes genesis which earlier) (votes_of_block genesis which c) (block_carried genesis which earlier b v later cast)
]

vote_of : (genesis : PlainState) (which : ℕ) (blocks chain : List AcceptedBlock) (voted : AttestationData) (attesters : List ℕ) (i : ℕ) → AreOf blocks chain → CarriedBy chain voted attesters → IsOneOf i attesters → i < length genesis.validators
    → VoteFor (carried_votes genesis which blocks) i voted
vote_of genesis which blocks [] voted attesters i are carried attests low = absurd carried
vote_of genesis which blocks (b ∷ chain) voted attesters i are (inl before) attests low = vote_of genesis which blocks chain voted attesters i (λ c h. are c (later_of b chain c h)) before attests low
vote_of genesis which blocks (b ∷ chain) voted attesters i are (inr here) attests low =
    let v = vote_of_block genesis which b voted attesters i here attests low in
    record { vote = v.vote; cast = block_carried genesis which blocks b v.vote (are b (first_of b chain)) v.cast; by = v.by; content = v.content }

pub vote_for_link : (genesis : PlainState) (which : ℕ) (blocks chain : List AcceptedBlock) (link : Link) (i : ℕ) → AreOf blocks chain → (h : HasVoted genesis (CarriedBy chain) link i) → VoteFor (carried_votes genesis which blocks) i h.voted
vote_for_link genesis which blocks chain link i are h = vote_of genesis which blocks chain h.voted h.attesters i are h.carried h.attests (active_is_low genesis i h.active)

-- ---- the first pair

module _ (test : Vote → Vote → Bool) where
  -- an earlier item and a later one that the test names
  abbrev HasPair : List Vote → Type 0
  HasPair [] = ⊥
  HasPair (v ∷ vs) = ((y : Vote) × (IsOneOf y vs × (test v y ≡ true))) ⊎ HasPair vs

  abbrev Across : List Vote → List Vote → Type 0
  Across earlier later = (x : Vote) × ((y : Vote) × (IsOneOf x earlier × (IsOneOf y later × (test x y ≡ true))))

  found_either : (v e : Vote) (earlier : List Vote) (x : Vote) (p : Bool) → test e v ≡ p → IsOneOf x (e ∷ earlier) → test x v ≡ true → find (λ e. test e v) (e ∷ earlier) ≡ None
      → (IsOneOf x earlier → test x v ≡ true → find (λ e. test e v) earlier ≡ None → ⊥) → ⊥
  found_either v e earlier x true p h is none rest = absurd (false≢true (sym (ap is_some (rw p at none))))
  found_either v e earlier x false p (inl same) is none rest = absurd (false≢true (sym p ∙ (ap (λ (k : Vote). test k v) same ∙ is)))
  found_either v e earlier x false p (inr h) is none rest = rest h is (rw p at none)

  found_some : (v : Vote) (earlier : List Vote) (x : Vote) → IsOneOf x earlier → test x v ≡ true → find (λ e. test e v) earlier ≡ None → ⊥
  found_some v [] x h is none = absurd h
  found_some v (e ∷ earlier) x h is none = found_either v e earlier x (test e v) refl h is none (found_some v earlier x)

  or_some : (o : Option Vote) (v : Vote) (rest : Option (Vote × Vote)) → (o ≡ None → is_some rest ≡ true) → is_some (pair_or o v rest) ≡ true
  unfolding pair_or
  or_some (Some e) v rest later = refl
  or_some None v rest later = later refl

  pub finds : (later earlier : List Vote) → Across earlier later ⊎ HasPair later → is_some (first_pair test earlier later) ≡ true
  unfolding first_pair
  finds [] earlier (inl h) = absurd h.1.1.1.0
  finds [] earlier (inr h) = absurd h
  finds (v ∷ vs) earlier h = or_some (find (λ e. test e v) earlier) v (first_pair test (earlier ++ v ∷ []) vs) (λ none. finds vs (earlier ++ v ∷ []) (elim h [
    | inl across ↦
        let x = across.0 in
        let y = across.1.0 in
        let one = across.1.1.0 in
        let is = across.1.1.1.1 in
        elim across.1.1.1.0 [
          | inl e ↦ absurd (found_some v earlier x one (ap (test x) e ∙ is) none)
          | inr more ↦ inl (x, (y, (in_first x earlier (v ∷ []) one, (more, is))))
        ]
    | inr pair ↦ elim pair [
      | inl here ↦ inl (v, (here.0, (in_second v earlier (v ∷ []) (inl refl), here.1)))
      | inr more ↦ inr more
    ]
  ]))

  pub pair_of : (votes : List Vote) (a b : Vote) → IsOneOf a votes → IsOneOf b votes → test a b ≡ true → test b a ≡ true → (a ≡ b → ⊥) → HasPair votes
  pair_of [] a b one other is back apart = absurd one
  pair_of (v ∷ vs) a b (inl e) (inl f) is back apart = absurd (apart (sym e ∙ f))
  pair_of (v ∷ vs) a b (inl e) (inr h) is back apart = inl (b, (h, ap (λ (k : Vote). test k b) e ∙ is))
  pair_of (v ∷ vs) a b (inr h) (inl f) is back apart = inl (a, (h, ap (λ (k : Vote). test k a) f ∙ back))
  pair_of (v ∷ vs) a b (inr h) (inr k) is back apart = inr (pair_of vs a b h k is back apart)

-- ---- offences

or_swap : (p q : Bool) → (p || q) ≡ true → (q || p) ≡ true
or_swap true true is = refl
or_swap true false is = refl
or_swap false true is = refl
or_swap false false is = is

-- two votes that nobody may cast both
abbrev clash : Vote → Vote → Bool
clash a b = are_slashable a.content b.content

swapped : (a b : Vote) → clash a b ≡ true → clash b a ≡ true
unfolding are_slashable
swapped a b is = or_swap (is_slashable_attestation_data a.content b.content) (is_slashable_attestation_data b.content a.content) is

there_is : {A B : Type 0} (f : A → B) (o : Option A) → is_some o ≡ true → is_some (option_map f o) ≡ true
there_is f (Some x) is = refl
there_is f None is = absurd (false≢true is)

-- who has two such votes has an offence
pub offends : (votes : List Vote) (validator : ℕ) (a b : AttestationData) → VoteFor votes validator a → VoteFor votes validator b → (is_slashable_attestation_data a b || is_slashable_attestation_data b a) ≡ true → (a ≡ b → ⊥) → is_some (offence_of votes validator) ≡ true
unfolding offence_of slashable_pair are_slashable
offends votes validator a b one other is apart =
    let own : List Vote = filter (λ v. v.validator == validator) votes in
    let x = one.vote in
    let y = other.vote in
    let here : IsOneOf x own = in_filter (λ v. v.validator == validator) x votes (eq-eqb x.validator validator one.by) one.cast in
    let there : IsOneOf y own = in_filter (λ v. v.validator == validator) y votes (eq-eqb y.validator validator other.by) other.cast in
    let slashable : clash x y ≡ true = subst (λ (d : AttestationData). (is_slashable_attestation_data d y.content || is_slashable_attestation_data y.content d) ≡ true) (sym one.content)
    (subst (λ (d : AttestationData). (is_slashable_attestation_data a d || is_slashable_attestation_data d a) ≡ true) (sym other.content) is) in
    let pair = pair_of clash own x y here there slashable (swapped x y slashable) (λ same. apart (sym one.content ∙ (ap (λ (v : Vote). v.content) same ∙ other.content))) in
    there_is (λ (p : Vote × Vote). offence_by validator p.0 p.1) (first_pair clash [] own) (finds clash own [] (inr pair))

-- ---- the offenders' set

either_by : (swap : Bool) (validator : ℕ) (a b : Offence) → a.validator ≡ validator → b.validator ≡ validator → (if swap then a else b).validator ≡ validator
either_by true validator a b one other = one
either_by false validator a b one other = other

by_validator : (validator : ℕ) (a b : Vote) → (offence_by validator a b).validator ≡ validator
unfolding offence_by
by_validator validator a b = either_by (surrounds b a) validator (record { validator = validator; kind = kind_of a b; first = b; second = a }) (record { validator = validator; kind = kind_of a b; first = a; second = b }) refl refl

abbrev offenders_of : List Offence → List ℕ
offenders_of offences = map (λ offence. offence.validator) offences

its_listed : (validator : ℕ) (o : Option (Vote × Vote)) → is_some (option_map (λ (p : Vote × Vote). offence_by validator p.0 p.1) o) ≡ true
    → IsOneOf validator (offenders_of (listed (option_map (λ (p : Vote × Vote). offence_by validator p.0 p.1) o)))
unfolding listed
its_listed validator (Some pair) is = inl (by_validator validator pair.0 pair.1)
its_listed validator None is = absurd (false≢true is)

is_listed : (votes : List Vote) (validator : ℕ) → is_some (offence_of votes validator) ≡ true → IsOneOf validator (offenders_of (listed (offence_of votes validator)))
unfolding offence_of
is_listed votes validator is = its_listed validator (slashable_pair votes validator) is

below : (votes : List Vote) (count i : ℕ) → i < count → is_some (offence_of votes i) ≡ true → IsOneOf i (offenders_of (offences_below votes count))
unfolding offences_below
below votes zero i low is = absurd (omega arith)
below votes (suc validator) i low is =
    subst (λ (xs : List ℕ). IsOneOf i xs) (sym (map-append (λ (o : Offence). o.validator) (offences_below votes validator) (listed (offence_of votes validator))))
    (elim (cases_lt i validator) [
      | inl less ↦ in_first i (offenders_of (offences_below votes validator)) (offenders_of (listed (offence_of votes validator))) (below votes validator i less is)
      | inr more ↦
          let same : validator ≡ i = omega arith in
          in_second i (offenders_of (offences_below votes validator)) (offenders_of (listed (offence_of votes validator)))
          (subst (λ (v : ℕ). IsOneOf i (offenders_of (listed (offence_of votes v)))) (sym same) (is_listed votes i is))
    ])

-- an offender below a number is among the offenders below it
pub among_offenders : (votes : List Vote) (count i : ℕ) → i < count → is_some (offence_of votes i) ≡ true → among (offenders_of (offences_below votes count)) i ≡ true
among_offenders votes count i low is = among_of (offenders_of (offences_below votes count)) i (below votes count i low is)
