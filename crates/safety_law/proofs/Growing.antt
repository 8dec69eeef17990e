-- Two histories on one genesis with a block more.
use Rattle.std.proofs.Common.{◌≡◌, ◌∙◌, ◌⊎◌, inl, inr, ℕ, List, [], ◌∷◌, ◌++◌, Option, Some, None, is_some, refl, sym, ap}
use Rattle.std.specs.List.{Contains}
use Rattle.std.proofs.lemmas.Bool.{false≢true}
use Rattle.std.proofs.lemmas.List.Elements.{Contains-append_left, Contains-append_right, Contains-append_cases}
use Rattle.bc_preset.specs.declared.configuration.ConfigValues.{ConfigValues}
use Rattle.spec_state.specs.declared.plain.PlainState.{PlainState}
use Rattle.spec_state.specs.Genesis.{header_root_of}
use Rattle.spec_forensics.specs.Histories.{AcceptedBlock, IsStepOn}
use Rattle.spec_forensics.specs.Clash.{first_accepted, clash_among, clash_with, first_or_second}
use Rattle.safety_law.specs.Histories.{Begins, HaveOneContent, NoneIsGenesis, AreHistories}
use Rattle.safety_law.proofs.Lists.{first_or_later, none_of_none}
use Rattle.safety_law.proofs.Contents.{same_content, not_genesis}

-- blocks of which each is a block or one of those before
abbrev AreWithin : List AcceptedBlock → AcceptedBlock → List AcceptedBlock → Type 0
AreWithin blocks b more = (y : AcceptedBlock) → Contains more y → (b ≡ y) ⊎ Contains blocks y

-- blocks of the root of a block are it
abbrev AreThis : List AcceptedBlock → AcceptedBlock → Type 0
AreThis blocks b = (y : AcceptedBlock) → Contains blocks y → y.root ≡ b.root → y.block ≡ b.block

pub content_within : (blocks more : List AcceptedBlock) (b : AcceptedBlock) → HaveOneContent blocks → AreThis blocks b → AreWithin blocks b more → HaveOneContent more
content_within blocks more b content this within x y one other same = elim (within x one) [
  | inl e ↦ elim (within y other) [
    | inl f ↦ ap (λ (k : AcceptedBlock). k.block) (sym e ∙ f)
    | inr k ↦ ap (λ (k : AcceptedBlock). k.block) (sym e) ∙ sym (this y k (sym same ∙ ap (λ (k : AcceptedBlock). k.root) (sym e)))
  ]
  | inr h ↦ elim (within y other) [
    | inl f ↦ this x h (same ∙ ap (λ (k : AcceptedBlock). k.root) (sym f)) ∙ ap (λ (k : AcceptedBlock). k.block) f
    | inr k ↦ content x y h k same
  ]
]

pub others_within : (genesis : PlainState) (blocks more : List AcceptedBlock) (b : AcceptedBlock) → NoneIsGenesis genesis blocks → (b.root ≡ header_root_of genesis → ⊥) → AreWithin blocks b more → NoneIsGenesis genesis more
others_within genesis blocks more b none other within y listed is = elim (within y listed) [
  | inl e ↦ other (ap (λ (k : AcceptedBlock). k.root) e ∙ is)
  | inr h ↦ none y h is
]

-- ---- one history

pub one_content : (genesis : PlainState) (history : List AcceptedBlock) (b : AcceptedBlock) → HaveOneContent history → NoneIsGenesis genesis history → clash_among (first_accepted genesis history) b.root b.block ≡ None → HaveOneContent (b ∷ history)
one_content genesis history b content none clear = content_within history (b ∷ history) b content (same_content genesis history b.root b.block content none clear) (λ y listed. first_or_later b history y listed)

pub one_other : (config : ConfigValues) (genesis : PlainState) (history : List AcceptedBlock) (b : AcceptedBlock) → IsStepOn config genesis history b → NoneIsGenesis genesis history → clash_among (first_accepted genesis history) b.root b.block ≡ None
    → NoneIsGenesis genesis (b ∷ history)
one_other config genesis history b step none clear = others_within genesis history (b ∷ history) b none (not_genesis config genesis history history b step clear) (λ y listed. first_or_later b history y listed)

-- ---- two histories

both_clear : (first second : Option ℕ) → first_or_second first second ≡ None → (first ≡ None) × (second ≡ None)
unfolding first_or_second
both_clear (Some place) second is = absurd (false≢true (sym (ap is_some is)))
both_clear None (Some place) is = absurd (false≢true (sym (ap is_some is)))
both_clear None None is = (refl, refl)

clear_of_both : (genesis : PlainState) (first second : List AcceptedBlock) (b : AcceptedBlock) → clash_with genesis first second b.root b.block ≡ None
    → (clash_among (first_accepted genesis first) b.root b.block ≡ None) × (clash_among (first_accepted genesis second) b.root b.block ≡ None)
unfolding clash_with
clear_of_both genesis first second b clear = both_clear (clash_among (first_accepted genesis first) b.root b.block) (clash_among (first_accepted genesis second) b.root b.block) clear

this_of_both : (config : ConfigValues) (genesis : PlainState) (first second : List AcceptedBlock) (b : AcceptedBlock) → AreHistories config genesis first second → clash_with genesis first second b.root b.block ≡ None → AreThis (first ++ second) b
this_of_both config genesis first second b are clear y listed same =
    let none = clear_of_both genesis first second b clear in
    elim (Contains-append_cases first second y listed) [
      | inl h ↦ same_content genesis first b.root b.block
          (λ p q one other is. are.content p q (Contains-append_left first second p one) (Contains-append_left first second q other) is)
          (λ p one is. are.others p (Contains-append_left first second p one) is) none.0 y h same
      | inr h ↦ same_content genesis second b.root b.block
          (λ p q one other is. are.content p q (Contains-append_right first second p one) (Contains-append_right first second q other) is)
          (λ p one is. are.others p (Contains-append_right first second p one) is) none.1 y h same
    ]

pub none_yet : (config : ConfigValues) (genesis : PlainState) → Begins genesis → AreHistories config genesis [] []
none_yet config genesis begins = record {
  begins = begins;
  first_is = tt;
  second_is = tt;
  content = λ a b one other same. absurd (none_of_none a one);
  others = λ b one is. none_of_none b one;
}

pub first_grows : (config : ConfigValues) (genesis : PlainState) (first second : List AcceptedBlock) (b : AcceptedBlock) → AreHistories config genesis first second → IsStepOn config genesis first b
    → clash_with genesis first second b.root b.block ≡ None → AreHistories config genesis (b ∷ first) second
first_grows config genesis first second b are step clear =
    let within : AreWithin (first ++ second) b (b ∷ (first ++ second)) = λ y listed. first_or_later b (first ++ second) y listed in
    record {
      begins = are.begins;
      first_is = (step, are.first_is);
      second_is = are.second_is;
      content = content_within (first ++ second) (b ∷ (first ++ second)) b are.content (this_of_both config genesis first second b are clear) within;
      others = others_within genesis (first ++ second) (b ∷ (first ++ second)) b are.others (not_genesis config genesis first first b step (clear_of_both genesis first second b clear).0) within;
    }

pub second_grows : (config : ConfigValues) (genesis : PlainState) (first second : List AcceptedBlock) (b : AcceptedBlock) → AreHistories config genesis first second → IsStepOn config genesis second b
    → clash_with genesis first second b.root b.block ≡ None → AreHistories config genesis first (b ∷ second)
second_grows config genesis first second b are step clear =
    let within : AreWithin (first ++ second) b (first ++ b ∷ second) = λ y listed. elim (Contains-append_cases first (b ∷ second) y listed) [
      | inl h ↦ inr (Contains-append_left first second y h)
      | inr h ↦ elim (first_or_later b second y h) [ inl e ↦ inl e | inr k ↦ inr (Contains-append_right first second y k) ]
    ] in
    record {
      begins = are.begins;
      first_is = are.first_is;
      second_is = (step, are.second_is);
      content = content_within (first ++ second) (first ++ b ∷ second) b are.content (this_of_both config genesis first second b are clear) within;
      others = others_within genesis (first ++ second) (first ++ b ∷ second) b are.others (not_genesis config genesis second second b step (clear_of_both genesis first second b clear).1) within;
    }
