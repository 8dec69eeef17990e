-- The offence of a validator among the votes that are held is what its spans name.
use Rattle.std.proofs.Common.{◌≡◌, ◌∙◌, ℕ, zero, suc, ◌+◌, ◌<◌, ◌≤◌, ◌==◌, nat_lt, Bool, true, false, cond, List, [], ◌∷◌, ◌++◌, map, length, get_or, Option, Some, None, is_some, refl, sym, ap, subst, arith, add-one}
use Rattle.std.specs.List.{All, filter, flat_map}
use Rattle.std.specs.Option.{option_map}
use Rattle.std.proofs.lemmas.Bool.{eqb-true, lt-ltb}
use Rattle.std.proofs.lemmas.List.{get_or-map, length-map}
use Rattle.std.proofs.lemmas.List.Elements.{filter-append, All-append, All-nil}
use Rattle.beacon_types.specs.declared.attestation_data.AttestationData.{AttestationData}
use Rattle.spec_forensics.specs.declared.vote.Vote.{Vote}
use Rattle.spec_forensics.specs.declared.offence.Offence.{Offence}
use Rattle.spec_forensics.specs.FirstPair.{first_pair}
use Rattle.spec_forensics.specs.Offences.{are_slashable, slashable_pair, offence_by, offence_of, listed, offences_below}
use Rattle.spec_forensics.proofs.Pairs.{pair_of_images, is_pair}
use Rattle.forensics.specs.Pairs.{content_at, no_content, are_slashable_at, first_slashable}
use Rattle.forensics.specs.AllSpans.{AreSpansOf, nothing_held, offence_in, votes_in, votes_from, votes_of}
use Rattle.forensics.specs.declared.spans.place.Place.{Place}
use Rattle.forensics.specs.Carried.{Carried, Held, Holds, IsHeld, place_of, vote_by, votes_by, all_votes_by, vote_at, has_offence, no_place}

module _ (count validator : ℕ) (low : validator < count) (make : ℕ → Vote) where
  abbrev by : Vote → Bool
  by v = v.validator == validator

  one : (c : Carried) (n x : ℕ) (b less : Bool) (kept own : List ℕ) → make n ≡ vote_by c validator → (x == validator) ≡ b → nat_lt x count ≡ less → filter by (map (vote_by c) kept) ≡ map make (map (λ (_ : ℕ). n) own)
      → filter by (map (vote_by c) (cond less (x ∷ kept) kept)) ≡ map make (map (λ (_ : ℕ). n) (cond b (x ∷ own) own))
  unfolding vote_by
  one c n x true true kept own is e l ih =
      ap (λ b. cond b (vote_by c x ∷ filter by (map (vote_by c) kept)) (filter by (map (vote_by c) kept))) e
      ∙ ap (λ v. v ∷ filter by (map (vote_by c) kept)) (ap (vote_by c) (eqb-true x validator e) ∙ sym is)
      ∙ ap (λ vs. make n ∷ vs) ih
  one c n x true false kept own is e l ih = absurd (let same : x ≡ validator = eqb-true x validator e in let less : nat_lt x count ≡ true = lt-ltb x count (omega arith) in cc)
  one c n x false true kept own is e l ih = ap (λ b. cond b (vote_by c x ∷ filter by (map (vote_by c) kept)) (filter by (map (vote_by c) kept))) e ∙ ih
  one c n x false false kept own is e l ih = ih

  of_attesters : (c : Carried) (n : ℕ) → make n ≡ vote_by c validator → (xs : List ℕ) → filter by (map (vote_by c) (filter (λ a. nat_lt a count) xs)) ≡ map make (map (λ (_ : ℕ). n) (filter (λ a. a == validator) xs))
  of_attesters c n is [] = refl
  of_attesters c n is (x ∷ xs) = one c n x (x == validator) (nat_lt x count) (filter (λ a. nat_lt a count) xs) (filter (λ a. a == validator) xs) is refl refl (of_attesters c n is xs)

  map_joined : (xs ys : List ℕ) → map make (xs ++ ys) ≡ map make xs ++ map make ys
  map_joined [] ys = refl
  map_joined (x ∷ xs) ys = ap (λ zs. make x ∷ zs) (map_joined xs ys)

  own_votes : (n : ℕ) (cs : List Carried) → ((k : ℕ) (d : Carried) → k < length cs → make (n + k) ≡ vote_by (get_or cs k d) validator)
      → filter by (flat_map (votes_by count) cs) ≡ map make (votes_from validator n (map (λ (c : Carried). c.attesters) cs))
  unfolding votes_by votes_from votes_in
  own_votes n [] makes = refl
  own_votes n (c ∷ cs) makes =
      let is : make n ≡ vote_by c validator = ap make (let e : n ≡ n + 0 = omega arith in e) ∙ makes 0 c (omega arith) in
      filter-append by (votes_by count c) (flat_map (votes_by count) cs)
      ∙ ap (λ vs. vs ++ filter by (flat_map (votes_by count) cs)) (of_attesters c n is c.attesters)
      ∙ ap (λ vs. map make (votes_in validator n c.attesters) ++ vs) (own_votes (suc n) cs (λ k d h. ap make (let e : suc n + k ≡ n + suc k = omega arith in e) ∙ makes (suc k) d (omega arith)))
      ∙ sym (map_joined (votes_in validator n c.attesters) (votes_from validator (suc n) (map (λ (c : Carried). c.attesters) cs)))

module _ (held : Held) (carried : List Carried) (holds : Holds held carried) where
  vote_is : (validator k : ℕ) (d : Carried) → k < length carried → vote_at held validator k ≡ vote_by (get_or carried k d) validator
  unfolding vote_at vote_by content_at place_of
  vote_is validator k d inside =
      ap (λ ps. record { which = (get_or ps k no_place).which; event = (get_or ps k no_place).event; position = (get_or ps k no_place).position; block_root = (get_or ps k no_place).block_root; validator = validator; content = get_or held.spans.contents k no_content }) holds.places
      ∙ ap (λ (p : Place). record { which = p.which; event = p.event; position = p.position; block_root = p.block_root; validator = validator; content = get_or held.spans.contents k no_content }) (get_or-map place_of carried k d no_place inside)
      ∙ ap (λ (x : AttestationData). record { which = (get_or carried k d).which; event = (get_or carried k d).event; position = (get_or carried k d).position; block_root = (get_or carried k d).block_root; validator = validator; content = x })
      (ap (λ cs. get_or cs k no_content) holds.contents ∙ get_or-map (λ (c : Carried). c.content) carried k d no_content inside)

  pub offence_is : (count validator : ℕ) → validator < count → offence_of (all_votes_by count carried) validator
      ≡ option_map (λ (o : ℕ × ℕ). offence_by validator (vote_at held validator o.0) (vote_at held validator o.1)) (first_slashable held.spans.contents [] (votes_of validator (map (λ (c : Carried). c.attesters) carried)))
  unfolding offence_of slashable_pair all_votes_by votes_of are_slashable_at vote_at
  offence_is count validator low =
      let make : ℕ → Vote = vote_at held validator in
      ap (λ vs. option_map (λ (pair : Vote × Vote). offence_by validator pair.0 pair.1) (first_pair (λ a b. are_slashable a.content b.content) [] vs))
      (own_votes count validator low (vote_at held validator) 0 carried (λ k d h. ap (vote_at held validator) (let e : 0 + k ≡ k = omega arith in e) ∙ vote_is validator k d h))
      ∙ ap (option_map (λ (pair : Vote × Vote). offence_by validator pair.0 pair.1)) (pair_of_images (vote_at held validator) (λ a b. are_slashable a.content b.content) (votes_from validator 0 (map (λ (c : Carried). c.attesters) carried)))
      ∙ twice (first_slashable held.spans.contents [] (votes_from validator 0 (map (λ (c : Carried). c.attesters) carried)))
    where
      twice : (o : Option (ℕ × ℕ)) → option_map (λ (pair : Vote × Vote). offence_by validator pair.0 pair.1) (option_map (λ (o : ℕ × ℕ). (vote_at held validator o.0, vote_at held validator o.1)) o) ≡ option_map (λ (o : ℕ × ℕ). offence_by validator (vote_at held validator o.0) (vote_at held validator o.1)) o
      twice None = refl
      twice (Some o) = refl

  -- numbers that are named are those of attestations
  votes_inside : (validator n top : ℕ) (lists : List (List ℕ)) → n + length lists ≤ top → All (λ v. v < top) (votes_from validator n lists)
  unfolding votes_from votes_in
  votes_inside validator n top [] few = All-nil (λ v. v < top)
  votes_inside validator n top (l ∷ lists) few = All-append (λ v. v < top) _ (votes_from validator (suc n) lists) (same (filter (λ a. a == validator) l)) (votes_inside validator (suc n) top lists (omega arith))
    where
      same : (xs : List ℕ) → All (λ v. v < top) (map (λ (_ : ℕ). n) xs)
      same [] k d h = absurd (omega arith)
      same (x ∷ xs) zero d h = omega arith
      same (x ∷ xs) (suc k) d h = same xs k d (omega arith)

  pub named_inside : (validator : ℕ) (pair : ℕ × ℕ) → first_slashable held.spans.contents [] (votes_of validator (map (λ (c : Carried). c.attesters) carried)) ≡ Some pair
      → (pair.0 < length held.spans.contents) × (pair.1 < length held.spans.contents)
  unfolding votes_of
  named_inside validator pair is =
      let count = holds.stand.count in
      let all = votes_inside validator 0 (length held.spans.contents) (map (λ (c : Carried). c.attesters) carried) (omega arith) in
      let p = is_pair (λ v. v < length held.spans.contents) (are_slashable_at held.spans.contents) [] (votes_from validator 0 (map (λ (c : Carried). c.attesters) carried)) (All-nil (λ v. v < length held.spans.contents)) all in
      (p.earlier pair is, p.later pair is)

-- ---- as code comes by it

pub put_none : (held : Held) (validator : ℕ) (o : Option (ℕ × ℕ)) → o ≡ None → validator < length held.spans.spans
    → ((attested : List (List ℕ)) → AreSpansOf held.spans attested → o ≡ first_slashable held.spans.contents [] (votes_of validator attested))
    → (before : List Offence) (carried : List Carried) → Holds held carried → before ≡ before ++ listed (offence_of (all_votes_by (length held.spans.spans) carried) validator)
unfolding listed
put_none held validator o is low says before carried holds =
    let none : offence_of (all_votes_by (length held.spans.spans) carried) validator ≡ None = offence_is held carried holds (length held.spans.spans) validator low
    ∙ ap (option_map (λ (o : ℕ × ℕ). offence_by validator (vote_at held validator o.0) (vote_at held validator o.1))) (sym (says (map (λ (c : Carried). c.attesters) carried) holds.stand) ∙ is) in
    nothing_more before ∙ ap (λ o. before ++ listed o) (sym none)
  where
    nothing_more : (xs : List Offence) → xs ≡ xs ++ []
    nothing_more [] = refl
    nothing_more (x ∷ xs) = ap (λ ys. x ∷ ys) (nothing_more xs)

pub put_some : (held : Held) (validator : ℕ) (o : Option (ℕ × ℕ)) (pair : ℕ × ℕ) (offence : Offence) (before after : List Offence) → o ≡ Some pair → validator < length held.spans.spans
    → ((attested : List (List ℕ)) → AreSpansOf held.spans attested → o ≡ first_slashable held.spans.contents [] (votes_of validator attested))
    → offence ≡ offence_by validator (vote_at held validator pair.0) (vote_at held validator pair.1) → after ≡ before ++ offence ∷ []
    → (carried : List Carried) → Holds held carried → after ≡ before ++ listed (offence_of (all_votes_by (length held.spans.spans) carried) validator)
unfolding listed
put_some held validator o pair offence before after is low says by put carried holds =
    let some : offence_of (all_votes_by (length held.spans.spans) carried) validator ≡ Some (offence_by validator (vote_at held validator pair.0) (vote_at held validator pair.1)) =
    offence_is held carried holds (length held.spans.spans) validator low
    ∙ ap (option_map (λ (o : ℕ × ℕ). offence_by validator (vote_at held validator o.0) (vote_at held validator o.1))) (sym (says (map (λ (c : Carried). c.attesters) carried) holds.stand) ∙ is) in
    put ∙ ap (λ p. before ++ p ∷ []) by ∙ ap (λ o. before ++ listed o) (sym some)

pub named_in : (held : Held) (validator : ℕ) (o : Option (ℕ × ℕ)) (pair : ℕ × ℕ) → o ≡ Some pair
    → ((attested : List (List ℕ)) → AreSpansOf held.spans attested → o ≡ first_slashable held.spans.contents [] (votes_of validator attested))
    → IsHeld held → (pair.0 < length held.spans.contents) × (pair.1 < length held.spans.contents)
named_in held validator o pair is says are =
    named_inside held are.carried are.holds validator pair (sym (says (map (λ (c : Carried). c.attesters) are.carried) are.holds.stand) ∙ is)

-- the same of spans as they stand
pub says_held : (own held : Held) (validator : ℕ) (o : Option (ℕ × ℕ)) → own ≡ held → ((attested : List (List ℕ)) → AreSpansOf own.spans attested → o ≡ first_slashable own.spans.contents [] (votes_of validator attested))
    → (attested : List (List ℕ)) → AreSpansOf held.spans attested → o ≡ first_slashable held.spans.contents [] (votes_of validator attested)
says_held own held validator o e says = subst (λ (h : Held). (attested : List (List ℕ)) → AreSpansOf h.spans attested → o ≡ first_slashable h.spans.contents [] (votes_of validator attested)) e says

pub listed_begin : (votes : List Vote) → [] ≡ offences_below votes 0
unfolding offences_below
listed_begin votes = refl

pub listed_more : (votes : List Vote) (i : ℕ) (before after : List Offence) → before ≡ offences_below votes i → after ≡ before ++ listed (offence_of votes i) → after ≡ offences_below votes (i + 1)
unfolding offences_below
listed_more votes i before after was put = put ∙ ap (λ xs. xs ++ listed (offence_of votes i)) was ∙ ap (offences_below votes) (sym (add-one i))

pub places_len : (held : Held) → IsHeld held → length held.places ≡ length held.spans.contents
places_len held are = ap length are.holds.places ∙ length-map are.carried place_of ∙ sym (ap length are.holds.contents ∙ length-map are.carried (λ (c : Carried). c.content))

-- ---- who has an offence

some_mapped : {A B : Type 0} (f : A → B) (o : Option A) → is_some (option_map f o) ≡ is_some o
some_mapped f None = refl
some_mapped f (Some x) = refl

-- what the spans keep is what the votes say
pub offends_is : (held : Held) (validator : ℕ) → validator < length held.spans.spans → (carried : List Carried) → Holds held carried
    → has_offence held validator ≡ is_some (offence_of (all_votes_by (length held.spans.spans) carried) validator)
unfolding has_offence offence_in
offends_is held validator low carried holds =
    ap is_some ((holds.stand.all.stands validator nothing_held low).offence)
    ∙ sym (some_mapped (λ (o : ℕ × ℕ). offence_by validator (vote_at held validator o.0) (vote_at held validator o.1)) (first_slashable held.spans.contents [] (votes_of validator (map (λ (c : Carried). c.attesters) carried))))
    ∙ sym (ap is_some (offence_is held carried holds (length held.spans.spans) validator low))

pub offends_kept : (own held : Held) (validator : ℕ) (o : Option (ℕ × ℕ)) (result : Bool) → own ≡ held → result ≡ is_some o → o ≡ offence_in own.spans validator → result ≡ has_offence held validator
unfolding has_offence
offends_kept own held validator o result same is keeps = is ∙ ap is_some keeps ∙ ap (λ (h : Held). is_some (offence_in h.spans validator)) same
