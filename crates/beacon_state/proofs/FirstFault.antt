-- Looking for the first validator that is wrong, and for a balance that was slashed.
use Rattle.std.proofs.Common.{◌≡◌, ℕ, Bool, true, false, ◌&&◌, ◌+◌, ◌≤◌, List, ◌∷◌, length, drop, Option, Some, None, slice_get, refl, sym, ap, ◌∙◌}
use Rattle.std.specs.List.{list_all}
use Rattle.std.specs.Option.{option_map}
use Rattle.std.proofs.lemmas.List.{drop_more, drop_all}
use Rattle.std.proofs.lemmas.Option.{slice_get_within, get_or_from_slice_get}
use Rattle.beacon_types.specs.declared.validator.Validator.{Validator}
use Rattle.spec_state.specs.declared.fault.ValidatorFault.{ValidatorFault}
use Rattle.spec_state.specs.declared.fault.GenesisFault.{GenesisFault}
use Rattle.spec_state.specs.declared.fault.GenesisFault.TheVariants as parts
use Rattle.spec_state.specs.Genesis.{or_later, validator_fault, validators_fault}

-- what is behind a place, where an item is there
behind : {A : Type 0} (xs : List A) (i : ℕ) (x : A) → slice_get xs i ≡ Some x → drop i xs ≡ x ∷ drop (i + 1) xs
behind xs i x e = drop_more xs i x (slice_get_within xs i x e) ∙ ap (λ y. y ∷ drop (i + 1) xs) (get_or_from_slice_get xs i x x e)

abbrev or_this : {A : Type 0} → A → Option A → A
or_this d None = d
or_this d (Some x) = x

step : (most i : ℕ) (vs : List Validator) (o : Option Validator) (wrong : Option ValidatorFault) → slice_get vs i ≡ o → Some wrong ≡ option_map (validator_fault most) o
    → validators_fault most i (drop i vs) ≡ or_later i wrong (validators_fault most (i + 1) (drop (i + 1) vs))
unfolding validators_fault
step most i vs None wrong e is = absurd cc
step most i vs (Some v) wrong e is =
    ap (validators_fault most i) (behind vs i v e) ∙ ap (λ w. or_later i w (validators_fault most (i + 1) (drop (i + 1) vs))) (sym (ap (or_this wrong) is))

pub fault_found : (most i : ℕ) (vs : List Validator) (wrong : ValidatorFault) (all : Option GenesisFault) → Some (Some wrong) ≡ option_map (validator_fault most) (slice_get vs i)
    → validators_fault most i (drop i vs) ≡ all → Some (parts.Validator i wrong) ≡ all
fault_found most i vs wrong all is so_far = sym (step most i vs _ (Some wrong) refl is) ∙ so_far

pub fault_later : (most i : ℕ) (vs : List Validator) (all : Option GenesisFault) → Some None ≡ option_map (validator_fault most) (slice_get vs i)
    → validators_fault most i (drop i vs) ≡ all → validators_fault most (i + 1) (drop (i + 1) vs) ≡ all
fault_later most i vs all is so_far = sym (step most i vs _ None refl is) ∙ so_far

pub fault_nowhere : (most i : ℕ) (vs : List Validator) (all : Option GenesisFault) → length vs ≤ i → validators_fault most i (drop i vs) ≡ all → None ≡ all
unfolding validators_fault
fault_nowhere most i vs all le so_far = sym (ap (validators_fault most i) (drop_all i vs le)) ∙ so_far

pass_step : {A : Type 0} (p : A → Bool) (xs : List A) (i : ℕ) (o : Option A) (passes : Bool) → slice_get xs i ≡ o → Some passes ≡ option_map p o
    → list_all p (drop i xs) ≡ (passes && list_all p (drop (i + 1) xs))
pass_step p xs i None passes e is = absurd cc
pass_step p xs i (Some x) passes e is = ap (list_all p) (behind xs i x e) ∙ ap (λ b. b && list_all p (drop (i + 1) xs)) (sym (ap (or_this passes) is))

pub one_fails : {A : Type 0} (p : A → Bool) (xs : List A) (i : ℕ) (passes all : Bool) → passes ≡ false → Some passes ≡ option_map p (slice_get xs i)
    → list_all p (drop i xs) ≡ all → false ≡ all
one_fails p xs i passes all e is so_far = ap (λ b. b && list_all p (drop (i + 1) xs)) (sym e) ∙ sym (pass_step p xs i _ passes refl is) ∙ so_far

pub one_passes : {A : Type 0} (p : A → Bool) (xs : List A) (i : ℕ) (passes all : Bool) → passes ≡ true → Some passes ≡ option_map p (slice_get xs i)
    → list_all p (drop i xs) ≡ all → list_all p (drop (i + 1) xs) ≡ all
one_passes p xs i passes all e is so_far = ap (λ b. b && list_all p (drop (i + 1) xs)) (sym e) ∙ sym (pass_step p xs i _ passes refl is) ∙ so_far

pub all_pass : {A : Type 0} (p : A → Bool) (xs : List A) (i : ℕ) (all : Bool) → length xs ≤ i → list_all p (drop i xs) ≡ all → true ≡ all
all_pass p xs i all le so_far = sym (ap (list_all p) (drop_all i xs le)) ∙ so_far
