-- Spans without votes, and what the spans of a validator name.
use Rattle.std.proofs.Common.{◌≡◌, ◌∙◌, ℕ, ◌<◌, List, [], ◌∷◌, ◌++◌, length, get_or, None, refl, sym, ap, subst}
use Rattle.std.specs.List.{All}
use Rattle.std.proofs.lemmas.List.{get_or_default}
use Rattle.std.proofs.lemmas.List.Elements.{All-push, All-nil}
use Rattle.beacon_types.specs.declared.attestation_data.AttestationData.{AttestationData}
use Rattle.forensics.specs.Pairs.{first_slashable}
use Rattle.forensics.specs.Spans.{HeldSpans, PlainSpans}
use Rattle.forensics.specs.Standing.{StandsFor}
use Rattle.forensics.proofs.Standing.{stands_first}
use Rattle.forensics.specs.AllSpans.{PlainAllSpans, nothing_held, offence_in, votes_of, votes_from, AreSpansOf, AreSorted}

abbrev pub nothing_yet : PlainSpans
nothing_yet = record { votes = []; offence = None }

pub record AreFresh (spans : List HeldSpans) : Type 0 where
  pub fresh : All (λ h. h.spans ≡ nothing_yet) spans

pub fresh_none : AreFresh []
fresh_none = record { fresh = All-nil (λ h. h.spans ≡ nothing_yet) }

pub fresh_more : (spans : List HeldSpans) (own : HeldSpans) → AreFresh spans → own.spans ≡ nothing_yet → AreFresh (spans ++ own ∷ [])
fresh_more spans own are e = record { fresh = All-push (λ h. h.spans ≡ nothing_yet) spans own are.fresh e }

fresh_stands : (contents : List AttestationData) (spans : List HeldSpans) → AreFresh spans → (k : ℕ) (d : HeldSpans) → k < length spans → StandsFor contents (get_or spans k d).spans []
fresh_stands contents spans are k d h = subst (λ (p : PlainSpans). StandsFor contents p []) (sym (are.fresh k d h)) (stands_first contents)

pub fresh_sorted_all : (contents : List AttestationData) (spans : List HeldSpans) → AreFresh spans → AreSorted contents spans
fresh_sorted_all contents spans are = record { sorted_all = λ k d h. (fresh_stands contents spans are k d h).sorted }

pub fresh_all_spans : (spans : List HeldSpans) (room : ℕ) → AreFresh spans → AreSpansOf (record { contents = []; spans = spans; room = room }) []
unfolding votes_of votes_from
fresh_all_spans spans room are = record { count = refl; all = record { stands = λ k d h. fresh_stands [] spans are k d h } }

-- ---- what is named

pub names : (all_spans : PlainAllSpans) (spans : List HeldSpans) (validator : ℕ) (own : HeldSpans) → spans ≡ all_spans.spans → validator < length spans → own ≡ get_or spans validator own
    → (attested : List (List ℕ)) → AreSpansOf all_spans attested → own.spans.offence ≡ first_slashable all_spans.contents [] (votes_of validator attested)
names all_spans spans validator own held inside e attested are =
    let d : HeldSpans = own in
    let at : own ≡ get_or all_spans.spans validator own = e ∙ ap (λ (hs : List HeldSpans). get_or hs validator own) held in
    let low : validator < length all_spans.spans = subst (λ (hs : List HeldSpans). validator < length hs) held inside in
    ap (λ (h : HeldSpans). h.spans.offence) at ∙ (are.all.stands validator own low).offence

pub keeps : (all_spans : PlainAllSpans) (spans : List HeldSpans) (validator : ℕ) (own : HeldSpans) → spans ≡ all_spans.spans → validator < length spans → own ≡ get_or spans validator own → own.spans.offence ≡ offence_in all_spans validator
unfolding offence_in
keeps all_spans spans validator own held inside e =
    ap (λ (h : HeldSpans). h.spans.offence) (e ∙ get_or_default spans validator own nothing_held inside ∙ ap (λ (hs : List HeldSpans). get_or hs validator nothing_held) held)

pub ruleset naming = (names, keeps)

pub ruleset beginning = (fresh_none, fresh_more, fresh_sorted_all, fresh_all_spans)
