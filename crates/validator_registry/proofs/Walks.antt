-- What is left of a walk over the groups of a registry.
use Rattle.std.proofs.Common.{◌≡◌, ◌∙◌, ℕ, zero, suc, ◌<◌, List, [], ◌∷◌, ◌++◌, length, refl, sym, ap, ap₂, subst, arith}
use Rattle.std.specs.Prelude.{Option, Some, None}
use Rattle.std.specs.Iterator.{YieldsFirst, MakesProgress, item_count}
use Rattle.std.proofs.lemmas.List.{nil_from_length}
use Rattle.beacon_types.specs.declared.validator.Validator.{Validator}
use Rattle.validator_registry.specs.inside.Groups.{validators_of, joined, AreGroups}

-- equal validators before equal groups are equal lists
joined_same : (vs ws : List Validator) (gs more : List (List Validator)) → vs ≡ ws → gs ≡ more
    → vs ++ joined gs ≡ ws ++ joined more
joined_same vs ws gs more e is = ap₂ (λ (us : List Validator) (l : List (List Validator)). us ++ joined l) e is

-- at the beginning, the validators of all groups are left
pub all_left : (rest : List Validator) (gs now : List (List Validator)) → rest ≡ validators_of [] [] → gs ≡ now
    → rest ++ joined gs ≡ joined now
unfolding validators_of
all_left rest gs now none is = joined_same rest [] gs now none is

-- behind an empty group there is no validator
none_behind : (g : List Validator) (others : ℕ) → (0 < others → length g ≡ 16) → g ≡ [] → others ≡ 0
none_behind g zero full none = refl
none_behind g (suc others) full none = absurd (omega (arith, full (omega arith), ap length none))

-- where no group is left, no validator is
pub no_group : (walk rest left : List Validator) (gs more : List (List Validator)) (r : Option Validator)
    → rest ++ joined gs ≡ walk → rest ≡ [] → left ≡ [] → gs ≡ [] → more ≡ [] → r ≡ None
    → YieldsFirst (λ vs. vs) walk r (left ++ joined more)
unfolding joined
no_group walk rest left gs more r view none behind is now nothing =
    subst (λ (given : Option Validator). YieldsFirst (λ vs. vs) walk given (left ++ joined more)) (sym nothing)
    (sym view ∙ joined_same rest [] gs [] none is, joined_same left [] more [] behind now)

-- the first of the next group is the next of all, and where there is none, no validator is left
pub next_group : (walk rest left g group : List Validator) (gs more : List (List Validator)) (r : Option Validator)
    → rest ++ joined gs ≡ walk → rest ≡ [] → gs ≡ g ∷ more → AreGroups gs → group ≡ g → YieldsFirst (λ vs. vs) group r left
    → YieldsFirst (λ vs. vs) walk r (left ++ joined more)
unfolding joined
next_group walk rest left g group gs more (Some v) view none is h same first =
    sym view ∙ (joined_same rest [] gs (g ∷ more) none is ∙ ap (λ (vs : List Validator). vs ++ joined more) (sym same ∙ first))
next_group walk rest left g group gs more None view none is h same first =
    let empty = sym same ∙ first.0 in
    let behind = nil_from_length (joined more) (none_behind g (length (joined more)) (subst AreGroups is h).1 empty) in (
      sym view ∙ (joined_same rest [] gs (g ∷ more) none is ∙ ap₂ (λ (vs ws : List Validator). vs ++ ws) empty behind),
      ap₂ (λ (vs ws : List Validator). vs ++ ws) first.1 behind,
    )

-- a walk that gives the first of what is left comes nearer to its end
pub goes_on : (can : List Validator → Type 0) → ((vs : List Validator) → can vs) → (walk left : List Validator)
    (r : Option Validator) → YieldsFirst (λ vs. vs) walk r left → MakesProgress can (item_count (λ vs. vs)) walk r left
goes_on can always walk left (Some v) first = record {
  on = λ _. (always left, tt, omega (arith, ap length first));
  keeps = always left;
  rests = λ _. tt;
}
goes_on can always walk left None first = record {
  on = λ _. tt;
  keeps = tt;
  rests = λ _. tt;
}
