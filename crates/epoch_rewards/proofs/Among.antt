-- Whether an index is one of those that pass a test.
use Rattle.std.proofs.Common.{◌≡◌, ℕ, zero, suc, ◌+◌, ◌<◌, Bool, true, false, cond, ◌||◌, ◌&&◌, List, [], ◌∷◌, filter, eqb, Option, Some, None, slice_get, refl, sym, ap, ◌∙◌, arith, inl, inr, ◌⊎◌}
use Rattle.std.specs.List.{list_any}
use Rattle.std.proofs.lemmas.Bool.{cases_Bool, cases_eq, eq-eqb, ne_eqb}
use Rattle.beacon_types.specs.declared.validator.Validator.{Validator}
use Rattle.spec_state.specs.Accessors.{indices_from}
use Rattle.spec_epochs.specs.Each.{is_among}

-- whether the validator that is found passes
unfoldable pub found_passes : (Validator → Bool) → Option Validator → Bool
found_passes test None = false
found_passes test (Some v) = test v

-- ---- those behind an index

either_skips : (b : Bool) (x k : ℕ) (xs : List ℕ) → (x ≡ k → ⊥) → list_any (λ other. eqb other k) (cond b (x ∷ xs) xs) ≡ list_any (λ other. eqb other k) xs
either_skips true x k xs ne = ap (λ b. b || list_any (λ other. eqb other k) xs) (ne_eqb x k ne)
either_skips false x k xs ne = refl

before : (test : Validator → Bool) (start k : ℕ) (vs : List Validator) → k < start → list_any (λ other. eqb other k) (indices_from test start vs) ≡ false
unfolding indices_from
before test start k [] less = refl
before test start k (v ∷ vs) less = either_skips (test v) start k (indices_from test (suc start) vs) (λ e. omega (arith, e, less)) ∙ before test (suc start) k vs (omega arith)

either_first : (b : Bool) (k : ℕ) (xs : List ℕ) → list_any (λ other. eqb other k) xs ≡ false → list_any (λ other. eqb other k) (cond b (k ∷ xs) xs) ≡ b
either_first true k xs none = ap (λ b. b || list_any (λ other. eqb other k) xs) (eq-eqb k k refl)
either_first false k xs none = none

among_from : (test : Validator → Bool) (start j : ℕ) (vs : List Validator) → list_any (λ other. eqb other (start + j)) (indices_from test start vs) ≡ found_passes test (slice_get vs j)
unfolding indices_from found_passes
among_from test start j [] = refl
among_from test start zero (v ∷ vs) =
    let e : start + zero ≡ start = omega arith in
    ap (λ k. list_any (λ other. eqb other k) (cond (test v) (start ∷ indices_from test (suc start) vs) (indices_from test (suc start) vs))) e
    ∙ either_first (test v) start (indices_from test (suc start) vs) (before test (suc start) start vs (omega arith))
among_from test start (suc j) (v ∷ vs) =
    let e : start + suc j ≡ suc start + j = omega arith in
    ap (λ k. list_any (λ other. eqb other k) (cond (test v) (start ∷ indices_from test (suc start) vs) (indices_from test (suc start) vs))) e
    ∙ either_skips (test v) start (suc start + j) (indices_from test (suc start) vs) (λ same. omega (arith, same))
    ∙ among_from test (suc start) j vs

-- an index is one of those that pass where the validator that is found passes
pub among_indices : (test : Validator → Bool) (k : ℕ) (vs : List Validator) → is_among k (indices_from test 0 vs) ≡ found_passes test (slice_get vs k)
unfolding is_among
among_indices test k vs = ap (λ n. list_any (λ other. eqb other n) (indices_from test 0 vs)) (let e : k ≡ 0 + k = omega arith in e) ∙ among_from test 0 k vs

-- ---- those that pass another test too

and_false : (b : Bool) → (b && false) ≡ false
and_false true = refl
and_false false = refl

same_one : (p : ℕ → Bool) (x k : ℕ) (rest : Bool) (xs : List ℕ) → x ≡ k → list_any (λ other. eqb other k) (filter p xs) ≡ (rest && p k) → (p k ≡ true) ⊎ (p k ≡ false)
    → list_any (λ other. eqb other k) (cond (p x) (x ∷ filter p xs) (filter p xs)) ≡ ((eqb x k || rest) && p k)
same_one p x k rest xs same e (inl t) =
    ap (λ b. list_any (λ other. eqb other k) (cond b (x ∷ filter p xs) (filter p xs))) (ap p same ∙ t)
    ∙ ap (λ b. b || list_any (λ other. eqb other k) (filter p xs)) (eq-eqb x k same)
    ∙ sym (ap (λ b. (b || rest) && p k) (eq-eqb x k same) ∙ t)
same_one p x k rest xs same e (inr f) =
    ap (λ b. list_any (λ other. eqb other k) (cond b (x ∷ filter p xs) (filter p xs))) (ap p same ∙ f)
    ∙ e ∙ ap (λ b. rest && b) f ∙ and_false rest
    ∙ sym (ap (λ b. (b || rest) && p k) (eq-eqb x k same) ∙ f)

keeps : (p : ℕ → Bool) (x k : ℕ) (rest : Bool) (xs : List ℕ) → list_any (λ other. eqb other k) (filter p xs) ≡ (rest && p k)
    → list_any (λ other. eqb other k) (cond (p x) (x ∷ filter p xs) (filter p xs)) ≡ ((eqb x k || rest) && p k)
keeps p x k rest xs e = elim (cases_eq x k) as (λ _. list_any (λ other. eqb other k) (cond (p x) (x ∷ filter p xs) (filter p xs)) ≡ ((eqb x k || rest) && p k)) [
  | inl same ↦ same_one p x k rest xs same e (cases_Bool (p k))
  | inr ne ↦ either_skips (p x) x k (filter p xs) ne ∙ e ∙ ap (λ b. (b || rest) && p k) (sym (ne_eqb x k ne))
]

pub among_filter : (p : ℕ → Bool) (xs : List ℕ) (k : ℕ) → is_among k (filter p xs) ≡ (is_among k xs && p k)
unfolding is_among
among_filter p [] k = refl
among_filter p (x ∷ xs) k = keeps p x k (list_any (λ other. eqb other k) xs) xs (among_filter p xs k)
