-- The loop over the registry that makes a value of each validator and its balance, and stops with the first that stops. It has
-- the invariant `made_from make (length validators) i values ≡ checked_map make (validator_indices state)`, beside what is left
-- of both lists from the place i on.
use Rattle.std.proofs.Common.{◌≡◌, ℕ, zero, suc, ◌+◌, List, [], ◌∷◌, ◌++◌, length, drop, slice_get, sym, ap, subst, ◌∙◌}
use Rattle.std.proofs.lemmas.List.{drop-drop}
use Rattle.std.proofs.lemmas.Option.{slice_get_within}
use Rattle.bc_words.specs.Outcome.{Outcome, done, Stops, StopsExactly}
use Rattle.bc_words.specs.declared.stop.Stop.{Stop}
use Rattle.bc_words.proofs.Outcomes.{stops_exactly}
use Rattle.spec_epochs.proofs.Each.{made_from, made_begins, made_ends, made_more, made_stops}
use Rattle.balance_totals.proofs.LeftOf.{first_left, nothing_left}

module _ {A B : Type 0} (make : ℕ → Outcome B) (items : List A) (i : ℕ) (values : List B) where
  -- a walk's item stands at the place, and its value goes behind the others
  pub left_made : (x : A) (left : List A) (index next : ℕ) (first : B) (more : List B) → x ∷ left ≡ drop i items → index ≡ i → next ≡ i + 1 → make index ≡ done first → more ≡ values ++ first ∷ []
      → made_from make (length items) next more ≡ made_from make (length items) i values
  left_made x left index next first more here at behind e pushed =
      ap (λ (k : ℕ). made_from make (length items) k more) behind
      ∙ ap (made_from make (length items) (i + 1)) pushed
      ∙ sym (made_more make (length items) i values first (slice_get_within items i x (first_left items i x left here)) (ap make (sym at) ∙ e))

  pub left_stops : (x : A) (left : List A) (index : ℕ) (stop : Stop) → x ∷ left ≡ drop i items → index ≡ i → StopsExactly stop (make index) → Stops stop (made_from make (length items) i values)
  left_stops x left index stop here at e =
      made_stops make (length items) i values stop (slice_get_within items i x (first_left items i x left here)) (stops_exactly stop (make i) (subst (λ (k : ℕ). StopsExactly stop (make k)) at e))

  pub left_ends : [] ≡ drop i items → made_from make (length items) i values ≡ done values
  left_ends none = made_ends make (length items) i values (nothing_left items i none)

-- the first of what is left of a list is read at the place
pub read_left : {A : Type 0} (items : List A) (i : ℕ) (left : List A) → left ≡ drop i items → slice_get items i ≡ slice_get left 0
read_left [] zero left here = ap (λ l. slice_get l 0) (sym here)
read_left [] (suc i) left here = ap (λ l. slice_get l 0) (sym here)
read_left (x ∷ items) zero left here = ap (λ l. slice_get l 0) (sym here)
read_left (x ∷ items) (suc i) left here = read_left items i left here

-- the others are left from the next place on
pub rest_left : {A : Type 0} (items : List A) (i : ℕ) (left : List A) → left ≡ drop i items → drop 1 left ≡ drop (i + 1) items
rest_left items i left here = ap (λ l. drop 1 l) here ∙ drop-drop 1 i items

-- what the loop needs beside its answers
pub ruleset making = (made_begins, read_left)
