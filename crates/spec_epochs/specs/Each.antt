-- Loops of the published text that make a number, or another value, for each validator.
use Rattle.std.specs.Prelude.{ℕ, Bool, List, [], ◌∷◌, length, ◌==◌}
use Rattle.std.specs.List.{range_with_len, list_any}
use Rattle.bc_words.specs.Outcome.{Outcome, done, ◌>>=◌, checked_add}
use Rattle.spec_state.specs.declared.plain.PlainState.{PlainState}

-- range(len(state.validators)): the indices of all validators
unfoldable pub validator_indices : PlainState → List ℕ
validator_indices state = range_with_len 0 (length state.validators)

-- what is made of each item of a list, in order; the first stop is that of all
unfoldable pub checked_map : {A B : Type 0} → (A → Outcome B) → List A → Outcome (List B)
checked_map make [] = done []
checked_map make (item ∷ items) = do
  first ← make item
  others ← checked_map make items
  done (first ∷ others)

-- the sum of a number and what each item of a list counts, from left to right; the first stop is that of all
unfoldable pub checked_total_from : {A : Type 0} → (A → Outcome ℕ) → ℕ → List A → Outcome ℕ
checked_total_from count sum [] = done sum
checked_total_from count sum (item ∷ items) = do
  number ← count item
  more ← checked_add sum number
  checked_total_from count more items

-- the sum of what each item of a list counts
unfoldable pub checked_total : {A : Type 0} → (A → Outcome ℕ) → List A → Outcome ℕ
checked_total count items = checked_total_from count 0 items

-- whether an index is one of a list
unfoldable pub is_among : ℕ → List ℕ → Bool
is_among index indices = list_any (λ other. other == index) indices
