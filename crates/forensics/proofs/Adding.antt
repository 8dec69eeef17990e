-- What spans are behind a vote, in each case.
use Rattle.std.proofs.Common.{◌≡◌, ◌∙◌, ℕ, inl, inr, Bool, true, false, cond, List, [], ◌∷◌, Option, Some, None, is_some, refl, sym, ap, subst}
use Rattle.std.specs.List.{list_any, insert}
use Rattle.std.proofs.lemmas.Bool.{or_parts, false≢true, or_cases}
use Rattle.beacon_types.specs.declared.attestation_data.AttestationData.{AttestationData}
use Rattle.forensics.specs.Pairs.{target_at, are_slashable_at}
use Rattle.forensics.specs.Spans.{PlainSpans, place_of, lesser, least_of, stands_at, with_vote, spans_after}

-- ---- the least of votes

pub nothing_passes : (test : ℕ → Bool) (best : Option ℕ) (votes : List ℕ) → list_any test votes ≡ false → least_of test best votes ≡ best
unfolding least_of lesser
nothing_passes test best [] none = refl
nothing_passes test best (v ∷ votes) none = let p = or_parts _ _ none in ap (λ b. least_of test (lesser b best v) votes) p.0 ∙ nothing_passes test best votes p.1

-- ---- the spans

module _ (contents : List AttestationData) (spans : PlainSpans) (vote : ℕ) where
  pub after_found : is_some spans.offence ≡ true → spans_after contents spans vote ≡ spans
  unfolding spans_after
  after_found h = ap (λ b. cond b spans (with_vote contents spans vote (least_of (λ e. are_slashable_at contents e vote) None spans.votes))) h

  module _ (none : is_some spans.offence ≡ false) where
    pub after_least : (least : Option ℕ) → least ≡ least_of (λ e. are_slashable_at contents e vote) None spans.votes → spans_after contents spans vote ≡ with_vote contents spans vote least
    unfolding spans_after
    after_least least e = ap (λ b. cond b spans (with_vote contents spans vote (least_of (λ e. are_slashable_at contents e vote) None spans.votes))) none ∙ ap (with_vote contents spans vote) (sym e)

    pub after_slashable : (earlier : ℕ) → Some earlier ≡ least_of (λ e. are_slashable_at contents e vote) None spans.votes → spans_after contents spans vote ≡ record { votes = spans.votes; offence = Some (earlier, vote) }
    unfolding with_vote
    after_slashable earlier e = after_least (Some earlier) e

    module _ (clear : list_any (λ e. are_slashable_at contents e vote) spans.votes ≡ false) where
      abbrev into : Bool → PlainSpans
      into b = cond b spans (record { votes = insert spans.votes (place_of contents spans.votes (target_at contents vote)) vote; offence = spans.offence })

      after_clear : spans_after contents spans vote ≡ into (stands_at contents spans.votes (place_of contents spans.votes (target_at contents vote)) vote)
      unfolding with_vote
      after_clear = after_least None (sym (nothing_passes (λ e. are_slashable_at contents e vote) None spans.votes clear))

      pub after_known : stands_at contents spans.votes (place_of contents spans.votes (target_at contents vote)) vote ≡ true → spans_after contents spans vote ≡ spans
      after_known h = after_clear ∙ ap into h

      pub after_new : stands_at contents spans.votes (place_of contents spans.votes (target_at contents vote)) vote ≡ false
          → spans_after contents spans vote ≡ record { votes = insert spans.votes (place_of contents spans.votes (target_at contents vote)) vote; offence = spans.offence }
      after_new h = after_clear ∙ ap into h

stays : (b : Bool) (best : Option ℕ) (v : ℕ) → is_some best ≡ true → is_some (lesser b best v) ≡ true
unfolding lesser
stays true None v h = refl
stays true (Some best) v h = refl
stays false best v h = h

some_stays : (test : ℕ → Bool) (best : Option ℕ) (votes : List ℕ) → is_some best ≡ true → is_some (least_of test best votes) ≡ true
unfolding least_of
some_stays test best [] h = h
some_stays test best (v ∷ votes) h = some_stays test (lesser (test v) best v) votes (stays (test v) best v h)

taken : (b : Bool) (best : Option ℕ) (v : ℕ) → b ≡ true → is_some (lesser b best v) ≡ true
unfolding lesser
taken true None v h = refl
taken true (Some best) v h = refl
taken false best v h = absurd (false≢true h)

pub something_passes : (test : ℕ → Bool) (best : Option ℕ) (votes : List ℕ) → list_any test votes ≡ true → is_some (least_of test best votes) ≡ true
unfolding least_of
something_passes test best [] some = absurd (false≢true some)
something_passes test best (v ∷ votes) some = elim (or_cases _ _ some) [
  | inl here ↦ some_stays test (lesser (test v) best v) votes (taken (test v) best v here)
  | inr there ↦ something_passes test (lesser (test v) best v) votes there
]

-- ---- the same, as code comes by it

module _ (contents : List AttestationData) (votes : List ℕ) (offence : Option (ℕ × ℕ)) (spans : PlainSpans) (vote : ℕ) (held : record { votes = votes; offence = offence } ≡ spans) (none : false ≡ is_some offence) (seen : List ℕ) (read : seen ≡ votes) where
  own : PlainSpans
  own = record { votes = votes; offence = offence }

  pub slashable_taken : (least : Option ℕ) (earlier : ℕ) → least ≡ least_of (λ e. are_slashable_at contents e vote) None seen → least ≡ Some earlier → record { votes = votes; offence = Some (earlier, vote) } ≡ spans_after contents spans vote
  unfolding own
  slashable_taken least earlier e is = subst (λ (p : PlainSpans). record { votes = votes; offence = Some (earlier, vote) } ≡ spans_after contents p vote) held
      (sym (after_slashable contents own vote (sym none) earlier (sym is ∙ e ∙ ap (least_of (λ e. are_slashable_at contents e vote) None) read)))

  pub slashable_untaken : (least : Option ℕ) (others : List ℕ) → others ≡ votes → true ≡ list_any (λ e. are_slashable_at contents e vote) others → least ≡ least_of (λ e. are_slashable_at contents e vote) None seen → (least ≡ None) → ⊥
  slashable_untaken least others same some e is = false≢true (ap is_some (sym is ∙ e ∙ ap (least_of (λ e. are_slashable_at contents e vote) None) read) ∙ something_passes (λ e. are_slashable_at contents e vote) None votes (ap (list_any (λ e. are_slashable_at contents e vote)) (sym same) ∙ sym some))

  module _ (others thirds : List ℕ) (same : others ≡ votes) (same_too : thirds ≡ votes) (clear : false ≡ list_any (λ e. are_slashable_at contents e vote) others) (target place : ℕ) (target_is : target ≡ target_at contents vote) (place_is' : place ≡ place_of contents seen target) where
    clear_of : list_any (λ e. are_slashable_at contents e vote) votes ≡ false
    clear_of = ap (list_any (λ e. are_slashable_at contents e vote)) (sym same) ∙ sym clear

    place_of_own : place ≡ place_of contents votes (target_at contents vote)
    place_of_own = place_is' ∙ ap (λ v. place_of contents v target) read ∙ ap (place_of contents votes) target_is

    stands_of : (b : Bool) → b ≡ stands_at contents thirds place vote → stands_at contents votes (place_of contents votes (target_at contents vote)) vote ≡ b
    stands_of b e = ap (λ p. stands_at contents votes p vote) (sym place_of_own) ∙ ap (λ v. stands_at contents v place vote) (sym same_too) ∙ sym e

    pub known_taken : true ≡ stands_at contents thirds place vote → spans ≡ spans_after contents spans vote
    unfolding own
    known_taken h = subst (λ (p : PlainSpans). p ≡ spans_after contents p vote) held (sym (after_known contents own vote (sym none) clear_of (stands_of true h)))

    pub new_taken : (now : List ℕ) → now ≡ insert votes place vote → false ≡ stands_at contents thirds place vote → record { votes = now; offence = offence } ≡ spans_after contents spans vote
    unfolding own
    new_taken now e h = subst (λ (p : PlainSpans). record { votes = now; offence = offence } ≡ spans_after contents p vote) held
        (ap (λ v. record { votes = v; offence = offence }) (e ∙ ap (λ p. insert votes p vote) place_of_own) ∙ sym (after_new contents own vote (sym none) clear_of (stands_of false h)))

pub ruleset adding = (after_found)
