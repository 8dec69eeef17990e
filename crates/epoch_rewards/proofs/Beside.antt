-- The next item of a list that is walked beside a loop over places.
use Rattle.std.proofs.Common.{◌≡◌, ℕ, ◌+◌, List, [], ◌∷◌, Option, Some, None, drop, slice_get, sym, ◌∙◌, arith}
use Rattle.std.specs.Prelude.{MatchOption}
use Rattle.std.proofs.lemmas.List.{drop_all}
use Rattle.std.proofs.lemmas.Option.{slice_get_past}
use Rattle.balance_totals.proofs.LeftOf.{first_left, others_left, nothing_left}

module _ {A : Type 0} (items : List A) (i : ℕ) (left rest : List A) where
  -- it stands at the place
  pub next_here : (next : Option A) → left ≡ drop i items → MatchOption next ((left ≡ []) × (rest ≡ [])) (λ x. left ≡ x ∷ rest) → slice_get items i ≡ next
  next_here None here e = slice_get_past items i (nothing_left items i (sym e.0 ∙ here))
  next_here (Some x) here e = first_left items i x rest (sym e ∙ here)

  -- the others are left from the next place on
  pub next_left : (next : Option A) → left ≡ drop i items → MatchOption next ((left ≡ []) × (rest ≡ [])) (λ x. left ≡ x ∷ rest) → rest ≡ drop (i + 1) items
  next_left None here e = let over = nothing_left items i (sym e.0 ∙ here) in e.1 ∙ sym (drop_all (i + 1) items (omega (arith, over)))
  next_left (Some x) here e = others_left items i x rest (sym e ∙ here)
