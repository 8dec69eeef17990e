-- The offences of a list of votes: the votes of each are slashable in its order, and who cast two slashable votes has one.
use Rattle.std.proofs.Common.{◌≡◌, ◌∙◌, ℕ, zero, suc, ◌<◌, ◌⊎◌, inl, inr, Bool, true, false, cond, ◌||◌, ◌&&◌, ◌==◌, not, nat_lt, List, [], ◌∷◌, ◌++◌, Option, Some, None, is_some, refl, sym, ap, ap₂, subst, arith}
use Rattle.std.specs.List.{find, filter}
use Rattle.std.specs.Option.{option_map}
use Rattle.std.proofs.lemmas.Bool.{cases_lt, ltb-true, eqb-true, eq-eqb, and_parts, or_cases, or_left, or_right, false≢true}
use Rattle.std.proofs.lemmas.Option.{same_Some}
use Rattle.beacon_types.specs.Slashable.{is_slashable_attestation_data}
use Rattle.beacon_types.specs.Equality.{same_data}
use Rattle.beacon_types.proofs.Equality.{data_decides}
use Rattle.beacon_types.specs.declared.attestation_data.AttestationData.{AttestationData}
use Rattle.ffg_law.specs.Links.{IsOneOf}
use Rattle.spec_forensics.specs.declared.vote.Vote.{Vote}
use Rattle.spec_forensics.specs.declared.offence.Offence.{Offence}
use Rattle.spec_forensics.specs.FirstPair.{pair_or, first_pair}
use Rattle.spec_forensics.specs.Offences.{are_slashable, slashable_pair, kind_of, surrounds, offence_by, offence_of, listed, offences_below}
use Rattle.spec_slasher.proofs.Lists.{in_first, in_second, in_filter, of_append, of_filter, of_find, and_true}

-- ---- slashable data

tested : (b : Bool) → (b ≡ true) ⊎ (b ≡ false)
tested true = inl refl
tested false = inr refl

-- data aren't slashable with themselves
slashable_itself : (d : AttestationData) → is_slashable_attestation_data d d ≡ true → ⊥
unfolding is_slashable_attestation_data
slashable_itself d is =
    let double : Bool = not (same_data d d) && (d.target.epoch == d.target.epoch) in
    let around : Bool = nat_lt d.source.epoch d.source.epoch && nat_lt d.target.epoch d.target.epoch in
    elim (or_cases double around is) [
      | inl one ↦ absurd (false≢true (sym (ap not ((data_decides d d).1 refl)) ∙ (and_parts (not (same_data d d)) (d.target.epoch == d.target.epoch) one).0))
      | inr other ↦
          let less : d.source.epoch < d.source.epoch = ltb-true d.source.epoch d.source.epoch (and_parts (nat_lt d.source.epoch d.source.epoch) (nat_lt d.target.epoch d.target.epoch) other).0 in
          absurd (omega (arith, less))
    ]

pub slashable_apart : (d e : AttestationData) → is_slashable_attestation_data d e ≡ true → d ≡ e → ⊥
slashable_apart d e is same = slashable_itself e (subst (λ (x : AttestationData). is_slashable_attestation_data x e ≡ true) same is)

other_data : (d e : AttestationData) → not (same_data d e) ≡ true → not (same_data e d) ≡ true
other_data d e is = elim (tested (same_data e d)) [
  | inl same ↦ absurd (false≢true (sym (ap not ((data_decides d e).1 (sym ((data_decides e d).0 same)))) ∙ is))
  | inr other ↦ ap not other
]

-- a double vote is one in both orders
other_double : (d e : AttestationData) → (not (same_data d e) && (d.target.epoch == e.target.epoch)) ≡ true → (not (same_data e d) && (e.target.epoch == d.target.epoch)) ≡ true
other_double d e is =
    let parts = and_parts _ _ is in
    and_true _ _ (other_data d e parts.0) (eq-eqb e.target.epoch d.target.epoch (sym (eqb-true d.target.epoch e.target.epoch parts.1)))

-- an earlier and a later vote that are slashable in one order, of which the later doesn't surround the earlier, are so in theirs
slashable_kept : (a b : Vote) → are_slashable a.content b.content ≡ true → surrounds b a ≡ false → is_slashable_attestation_data a.content b.content ≡ true
unfolding are_slashable is_slashable_attestation_data surrounds
slashable_kept a b is not_around = elim (or_cases _ _ is) [
  | inl theirs ↦ theirs
  | inr back ↦ elim (or_cases _ _ back) [
    | inl double ↦ or_left _ _ (other_double b.content a.content double)
    | inr around ↦ absurd (false≢true (sym not_around ∙ around))
  ]
]

slashable_turned : (a b : Vote) → surrounds b a ≡ true → is_slashable_attestation_data b.content a.content ≡ true
unfolding is_slashable_attestation_data surrounds
slashable_turned a b around = or_right _ _ around

-- ---- the offence of a validator

-- two votes of a list that a validator cast, slashable in this order
pub record IsOffence (votes : List Vote) (i : ℕ) (o : Offence) : Type 0 where
  pub first : IsOneOf o.first votes
  pub second : IsOneOf o.second votes
  pub first_by : o.first.validator ≡ i
  pub second_by : o.second.validator ≡ i
  pub by : o.validator ≡ i
  pub slashable : is_slashable_attestation_data o.first.content o.second.content ≡ true

is_offence : (votes : List Vote) (i : ℕ) (a b : Vote) → IsOneOf a votes → IsOneOf b votes → a.validator ≡ i → b.validator ≡ i → are_slashable a.content b.content ≡ true → (s : Bool) → surrounds b a ≡ s → IsOffence votes i (offence_by i a b)
unfolding offence_by
is_offence votes i a b one other one_by other_by is true s =
    subst (λ (swap : Bool). IsOffence votes i (cond swap (record { validator = i; kind = kind_of a b; first = b; second = a }) (record { validator = i; kind = kind_of a b; first = a; second = b }))) (sym s)
    (record { first = other; second = one; first_by = other_by; second_by = one_by; by = refl; slashable = slashable_turned a b s })
is_offence votes i a b one other one_by other_by is false s =
    subst (λ (swap : Bool). IsOffence votes i (cond swap (record { validator = i; kind = kind_of a b; first = b; second = a }) (record { validator = i; kind = kind_of a b; first = a; second = b }))) (sym s)
    (record { first = one; second = other; first_by = one_by; second_by = other_by; by = refl; slashable = slashable_kept a b is s })

-- ---- the first pair of votes

module _ (test : Vote → Vote → Bool) where
  record IsOr (o : Option Vote) (v a b : Vote) : Type 0 where
    is : o ≡ Some a
    later : v ≡ b

  or_is : (o : Option Vote) (v : Vote) (rest : Option (Vote × Vote)) (a b : Vote) → pair_or o v rest ≡ Some (a, b) → IsOr o v a b ⊎ (rest ≡ Some (a, b))
  unfolding pair_or
  or_is (Some e) v rest a b is = let same = same_Some _ _ is in inl (record { is = ap Some (ap (λ (x : Vote × Vote). x.0) same); later = ap (λ (x : Vote × Vote). x.1) same })
  or_is None v rest a b is = inr is

  record IsFirst (a b : Vote) (earlier later : List Vote) : Type 0 where
    first : IsOneOf a earlier ⊎ IsOneOf a later
    second : IsOneOf b later
    passes : test a b ≡ true

  first_is : (later earlier : List Vote) (a b : Vote) → first_pair test earlier later ≡ Some (a, b) → IsFirst a b earlier later
  unfolding first_pair
  first_is [] earlier a b is = absurd (false≢true (ap is_some is))
  first_is (v ∷ vs) earlier a b is = elim (or_is (find (λ e. test e v) earlier) v (first_pair test (earlier ++ v ∷ []) vs) a b is) [
    | inl here ↦
        let f = of_find (λ e. test e v) a earlier here.is in
        record { first = inl f.0; second = inl here.later; passes = ap (test a) (sym here.later) ∙ f.1 }
    | inr more ↦
        let r = first_is vs (earlier ++ v ∷ []) a b more in
        record {
          first = elim r.first [
            | inl before ↦ elim (of_append a earlier (v ∷ []) before) [ inl old ↦ inl old | inr last ↦ elim last [ inl e ↦ inr (inl e) | inr none ↦ absurd none ] ]
            | inr behind ↦ inr (inr behind)
          ];
          second = inr r.second;
          passes = r.passes;
        }
  ]

  -- an earlier vote and a later one that the test names
  abbrev HasPair : List Vote → Type 0
  HasPair [] = ⊥
  HasPair (v ∷ vs) = ((y : Vote) × (IsOneOf y vs × (test v y ≡ true))) ⊎ HasPair vs

  abbrev Across : List Vote → List Vote → Type 0
  Across earlier later = (x : Vote) × ((y : Vote) × (IsOneOf x earlier × (IsOneOf y later × (test x y ≡ true))))

  found_either : (v e : Vote) (earlier : List Vote) (x : Vote) (p : Bool) → test e v ≡ p → IsOneOf x (e ∷ earlier) → test x v ≡ true → find (λ e. test e v) (e ∷ earlier) ≡ None
      → (IsOneOf x earlier → test x v ≡ true → find (λ e. test e v) earlier ≡ None → ⊥) → ⊥
  found_either v e earlier x true p h is none rest = absurd (false≢true (sym (ap is_some (rw p at none))))
  found_either v e earlier x false p (inl same) is none rest = absurd (false≢true (sym p ∙ (ap (λ (k : Vote). test k v) same ∙ is)))
  found_either v e earlier x false p (inr h) is none rest = rest h is (rw p at none)

  found_some : (v : Vote) (earlier : List Vote) (x : Vote) → IsOneOf x earlier → test x v ≡ true → find (λ e. test e v) earlier ≡ None → ⊥
  found_some v [] x h is none = absurd h
  found_some v (e ∷ earlier) x h is none = found_either v e earlier x (test e v) refl h is none (found_some v earlier x)

  or_some : (o : Option Vote) (v : Vote) (rest : Option (Vote × Vote)) → (o ≡ None → is_some rest ≡ true) → is_some (pair_or o v rest) ≡ true
  unfolding pair_or
  or_some (Some e) v rest later = refl
  or_some None v rest later = later refl

  pairs : (later earlier : List Vote) → Across earlier later ⊎ HasPair later → is_some (first_pair test earlier later) ≡ true
  unfolding first_pair
  pairs [] earlier (inl h) = absurd h.1.1.1.0
  pairs [] earlier (inr h) = absurd h
  pairs (v ∷ vs) earlier h = or_some (find (λ e. test e v) earlier) v (first_pair test (earlier ++ v ∷ []) vs) (λ none. pairs vs (earlier ++ v ∷ []) (elim h [
    | inl across ↦
        let x = across.0 in
        let y = across.1.0 in
        let one = across.1.1.0 in
        let is = across.1.1.1.1 in
        elim across.1.1.1.0 [
          | inl e ↦ absurd (found_some v earlier x one (ap (test x) e ∙ is) none)
          | inr more ↦ inl (x, (y, (in_first x earlier (v ∷ []) one, (more, is))))
        ]
    | inr pair ↦ elim pair [
      | inl here ↦ inl (v, (here.0, (in_second v earlier (v ∷ []) (inl refl), here.1)))
      | inr more ↦ inr more
    ]
  ]))

  pair_in : (votes : List Vote) (a b : Vote) → IsOneOf a votes → IsOneOf b votes → test a b ≡ true → test b a ≡ true → (a ≡ b → ⊥) → HasPair votes
  pair_in [] a b one other is back apart = absurd one
  pair_in (v ∷ vs) a b (inl e) (inl f) is back apart = absurd (apart (sym e ∙ f))
  pair_in (v ∷ vs) a b (inl e) (inr h) is back apart = inl (b, (h, ap (λ (k : Vote). test k b) e ∙ is))
  pair_in (v ∷ vs) a b (inr h) (inl f) is back apart = inl (a, (h, ap (λ (k : Vote). test k a) f ∙ back))
  pair_in (v ∷ vs) a b (inr h) (inr k) is back apart = inr (pair_in vs a b h k is back apart)

-- ---- offences

abbrev clash : Vote → Vote → Bool
clash a b = are_slashable a.content b.content

or_swap : (p q : Bool) → (p || q) ≡ true → (q || p) ≡ true
or_swap true true is = refl
or_swap true false is = refl
or_swap false true is = refl
or_swap false false is = is

swapped : (a b : Vote) → clash a b ≡ true → clash b a ≡ true
unfolding are_slashable
swapped a b is = or_swap (is_slashable_attestation_data a.content b.content) (is_slashable_attestation_data b.content a.content) is

no_earlier : (a : Vote) (own : List Vote) → IsOneOf a [] ⊎ IsOneOf a own → IsOneOf a own
no_earlier a own (inl none) = absurd none
no_earlier a own (inr h) = h

pair_offends : (votes : List Vote) (i : ℕ) (a b : Vote) → slashable_pair votes i ≡ Some (a, b) → IsOffence votes i (offence_by i a b)
unfolding slashable_pair
pair_offends votes i a b is =
    let own : List Vote = filter (λ v. v.validator == i) votes in
    let f = first_is clash own [] a b is in
    let one = of_filter (λ (v : Vote). v.validator == i) a votes (no_earlier a own f.first) in
    let other = of_filter (λ (v : Vote). v.validator == i) b votes f.second in
    is_offence votes i a b one.0 other.0 (eqb-true _ _ one.1) (eqb-true _ _ other.1) f.passes (surrounds b a) refl

of_pair : (votes : List Vote) (i : ℕ) (pair : Option (Vote × Vote)) → slashable_pair votes i ≡ pair → (o : Offence) → option_map (λ (p : Vote × Vote). offence_by i p.0 p.1) pair ≡ Some o → IsOffence votes i o
of_pair votes i None is o made = absurd (false≢true (ap is_some made))
of_pair votes i (Some pair) is o made = subst (IsOffence votes i) (same_Some _ _ made) (pair_offends votes i pair.0 pair.1 is)

pub offence_is : (votes : List Vote) (i : ℕ) (o : Offence) → offence_of votes i ≡ Some o → IsOffence votes i o
unfolding offence_of
offence_is votes i o is = of_pair votes i (slashable_pair votes i) refl o is

-- a vote of a validator for data
pub record VoteFor (votes : List Vote) (i : ℕ) (voted : AttestationData) : Type 0 where
  pub vote : Vote
  pub cast : IsOneOf vote votes
  pub by : vote.validator ≡ i
  pub content : vote.content ≡ voted

there_is : {A B : Type 0} (f : A → B) (o : Option A) → is_some o ≡ true → is_some (option_map f o) ≡ true
there_is f (Some x) is = refl
there_is f None is = absurd (false≢true is)

-- who cast two slashable votes has an offence
pub offends : (votes : List Vote) (i : ℕ) (a b : AttestationData) → VoteFor votes i a → VoteFor votes i b → is_slashable_attestation_data a b ≡ true → is_some (offence_of votes i) ≡ true
unfolding offence_of slashable_pair are_slashable
offends votes i a b one other is =
    let own : List Vote = filter (λ v. v.validator == i) votes in
    let x = one.vote in
    let y = other.vote in
    let here : IsOneOf x own = in_filter (λ v. v.validator == i) x votes (eq-eqb x.validator i one.by) one.cast in
    let there : IsOneOf y own = in_filter (λ v. v.validator == i) y votes (eq-eqb y.validator i other.by) other.cast in
    let theirs : is_slashable_attestation_data x.content y.content ≡ true = ap₂ is_slashable_attestation_data one.content other.content ∙ is in
    let slashable : clash x y ≡ true = or_left _ _ theirs in
    let pair = pair_in clash own x y here there slashable (swapped x y slashable) (λ same. slashable_apart x.content y.content theirs (ap (λ (v : Vote). v.content) same)) in
    there_is (λ (p : Vote × Vote). offence_by i p.0 p.1) (first_pair clash [] own) (pairs clash own [] (inr pair))

-- ---- the list of offences

pub record IsOffenceBelow (votes : List Vote) (count : ℕ) (o : Offence) : Type 0 where
  pub at : ℕ
  pub low : at < count
  pub is : offence_of votes at ≡ Some o

of_listed : (o : Option Offence) (x : Offence) → IsOneOf x (listed o) → o ≡ Some x
unfolding listed
of_listed None x h = absurd h
of_listed (Some o) x (inl e) = ap Some e
of_listed (Some o) x (inr none) = absurd none

into_listed : (o : Option Offence) (x : Offence) → o ≡ Some x → IsOneOf x (listed o)
unfolding listed
into_listed None x is = absurd (false≢true (ap is_some is))
into_listed (Some o) x is = inl (same_Some _ _ is)

pub of_offences : (votes : List Vote) (count : ℕ) (o : Offence) → IsOneOf o (offences_below votes count) → IsOffenceBelow votes count o
unfolding offences_below
of_offences votes zero o h = absurd h
of_offences votes (suc i) o h = elim (of_append o (offences_below votes i) (listed (offence_of votes i)) h) [
  | inl before ↦ let r = of_offences votes i o before in let low = r.low in record { at = r.at; low = omega (arith, low); is = r.is }
  | inr here ↦ record { at = i; low = omega arith; is = of_listed (offence_of votes i) o here }
]

pub in_offences : (votes : List Vote) (count i : ℕ) (o : Offence) → i < count → offence_of votes i ≡ Some o → IsOneOf o (offences_below votes count)
unfolding offences_below
in_offences votes zero i o low is = absurd (omega (arith, low))
in_offences votes (suc k) i o low is = elim (cases_lt i k) [
  | inl less ↦ in_first o (offences_below votes k) (listed (offence_of votes k)) (in_offences votes k i o less is)
  | inr more ↦
      let same : i ≡ k = omega (arith, low, more) in
      in_second o (offences_below votes k) (listed (offence_of votes k)) (into_listed (offence_of votes k) o (ap (offence_of votes) (sym same) ∙ is))
]
