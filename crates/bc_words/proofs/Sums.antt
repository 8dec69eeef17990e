-- The law of the checked sum: it is the sum where that fits, and refused where it does not, since sums on the way
-- only grow. And a loop that adds number by number: it names `sum_by_number` in its #[tactic(auto, using(..))] and has
-- the invariant `checked_sum_from count sum (drop i xs) ≡ checked_sum_by count xs`.
use Rattle.std.proofs.Common.{◌≡◌, ℕ, zero, suc, ◌+◌, ◌<◌, ◌≤◌, ◌^◌, List, [], ◌∷◌, length, drop, get_or, refl, sym, ap, ◌∙◌, inl, inr, arith}
use Rattle.std.specs.Prelude.{sum_by, cond}
use Rattle.std.specs.List.{fold}
use Rattle.std.proofs.lemmas.Bool.{lt-ltb, le-ltb, cases_lt}
use Rattle.bc_words.specs.Outcome.{done, refused, bind, checked_add, checked_sum_by, checked_sum_from, StopsExactly}
use Rattle.bc_words.specs.declared.refusal.Refusal.TheVariants.{Overflow}
use Rattle.bc_words.specs.declared.stop.Stop.{Stop}
use Rattle.bc_words.proofs.Outcomes.{exactly_bound}

module _ {A : Type 0} (count : A → ℕ) where
  abbrev total_from : ℕ → List A → ℕ
  total_from sum xs = fold (λ a x. a + count x) sum xs

  total_grows : (xs : List A) (sum : ℕ) → sum ≤ total_from sum xs
  total_grows [] sum = omega arith
  total_grows (x ∷ xs) sum = omega (arith, total_grows xs (sum + count x))

  opens : (sum : ℕ) (x : A) (xs : List A) → checked_sum_from count sum (x ∷ xs) ≡ bind (checked_add sum (count x)) (λ more. checked_sum_from count more xs)
  unfolding checked_sum_from
  opens sum x xs = refl

  step_fits : (sum : ℕ) (x : A) (xs : List A) → sum + count x < 2 ^ 64 → checked_sum_from count sum (x ∷ xs) ≡ checked_sum_from count (sum + count x) xs
  unfolding checked_sum_from checked_add
  step_fits sum x xs h = ap (λ b. bind (cond b (done (sum + count x)) (refused Overflow)) (λ more. checked_sum_from count more xs)) (lt-ltb _ _ h)

  step_overflows : (sum : ℕ) (x : A) (xs : List A) → 2 ^ 64 ≤ sum + count x → checked_sum_from count sum (x ∷ xs) ≡ refused Overflow
  unfolding checked_sum_from checked_add
  step_overflows sum x xs h = ap (λ b. bind (cond b (done (sum + count x)) (refused Overflow)) (λ more. checked_sum_from count more xs)) (le-ltb _ _ h)

  nothing_more : (sum : ℕ) → checked_sum_from count sum [] ≡ done sum
  unfolding checked_sum_from
  nothing_more sum = refl

  fits_from : (xs : List A) (sum : ℕ) → total_from sum xs < 2 ^ 64 → checked_sum_from count sum xs ≡ done (total_from sum xs)
  fits_from [] sum h = nothing_more sum
  fits_from (x ∷ xs) sum h = step_fits sum x xs (omega (arith, h, total_grows xs (sum + count x))) ∙ fits_from xs (sum + count x) h

  overflows_from : (xs : List A) (sum : ℕ) → sum < 2 ^ 64 → 2 ^ 64 ≤ total_from sum xs → checked_sum_from count sum xs ≡ refused Overflow
  overflows_from [] sum fits h = absurd (omega arith)
  overflows_from (x ∷ xs) sum fits h = elim (cases_lt (sum + count x) (2 ^ 64)) as (λ _. checked_sum_from count sum (x ∷ xs) ≡ refused Overflow) [
    | inl less ↦ step_fits sum x xs less ∙ overflows_from xs (sum + count x) less h
    | inr more ↦ step_overflows sum x xs more
  ]

  -- where the whole sum fits, the checked sum is it
  pub checked_sum_fits : (xs : List A) → sum_by count xs < 2 ^ 64 → checked_sum_by count xs ≡ done (sum_by count xs)
  unfolding checked_sum_by
  checked_sum_fits xs h = fits_from xs 0 h

  -- where the whole sum does not fit, the checked sum is refused
  pub checked_sum_overflows : (xs : List A) → 2 ^ 64 ≤ sum_by count xs → checked_sum_by count xs ≡ refused Overflow
  unfolding checked_sum_by
  checked_sum_overflows xs h = overflows_from xs 0 (omega arith) h

  -- ---- a loop over the items

  pub sum_begins : (xs : List A) → checked_sum_from count 0 (drop 0 xs) ≡ checked_sum_by count xs
  unfolding checked_sum_by
  sum_begins [] = refl
  sum_begins (x ∷ xs) = refl

  -- past the last item the sum is the value
  pub sum_ends : (xs : List A) (i sum : ℕ) → length xs ≤ i → checked_sum_from count sum (drop i xs) ≡ done sum
  sum_ends [] zero sum over = nothing_more sum
  sum_ends [] (suc i) sum over = nothing_more sum
  sum_ends (x ∷ xs) zero sum over = absurd (omega arith)
  sum_ends (x ∷ xs) (suc i) sum over = sum_ends xs i sum (omega arith)

  here : (xs : List A) (i sum : ℕ) (x : A) → i < length xs → checked_sum_from count sum (drop i xs) ≡ bind (checked_add sum (count (get_or xs i x))) (λ more. checked_sum_from count more (drop (i + 1) xs))
  here [] i sum x less = absurd (omega arith)
  here (y ∷ xs) zero sum x less = opens sum y xs
  here (y ∷ xs) (suc i) sum x less = here xs i sum x (omega arith) ∙ ap (λ j. bind (checked_add sum (count (get_or xs i x))) (λ more. checked_sum_from count more (drop j (y ∷ xs)))) (let e : suc (i + 1) ≡ suc i + 1 = omega arith in e)

  -- ---- one item

  pub sum_of_nothing : (sum : ℕ) → checked_sum_from count sum [] ≡ done sum
  sum_of_nothing sum = nothing_more sum

  pub sum_takes : (x : A) (xs : List A) (sum more next : ℕ) → more ≡ count x → checked_add sum more ≡ done next → checked_sum_from count sum (x ∷ xs) ≡ checked_sum_from count next xs
  sum_takes x xs sum more next is e = opens sum x xs ∙ ap (λ n. bind (checked_add sum n) (λ m. checked_sum_from count m xs)) (sym is) ∙ ap (λ o. bind o (λ m. checked_sum_from count m xs)) e

  pub sum_refuses : (x : A) (xs : List A) (sum more : ℕ) (stop : Stop) → more ≡ count x → StopsExactly stop (checked_add sum more) → StopsExactly stop (checked_sum_from count sum (x ∷ xs))
  sum_refuses x xs sum more stop is e = rw (opens sum x xs, ← is) (exactly_bound stop (checked_add sum more) (λ m. checked_sum_from count m xs) e)

-- ---- the same over numbers

-- a sum that fits leaves the items behind it
pub sum_steps : (count : ℕ → ℕ) (xs : List ℕ) (i sum more next : ℕ) → i < length xs → more ≡ count (get_or xs i 0) → checked_add sum more ≡ done next → checked_sum_from count sum (drop i xs) ≡ checked_sum_from count next (drop (i + 1) xs)
sum_steps count xs i sum more next less is e =
    here count xs i sum 0 less ∙ ap (λ n. bind (checked_add sum n) (λ m. checked_sum_from count m (drop (i + 1) xs))) (sym is) ∙ ap (λ o. bind o (λ m. checked_sum_from count m (drop (i + 1) xs))) e

-- a sum that does not fit is the stop of all
pub sum_stops : (count : ℕ → ℕ) (xs : List ℕ) (i sum more : ℕ) (stop : Stop) → i < length xs → more ≡ count (get_or xs i 0) → StopsExactly stop (checked_add sum more) → StopsExactly stop (checked_sum_from count sum (drop i xs))
sum_stops count xs i sum more stop less is e =
    rw (here count xs i sum 0 less, ← is) (exactly_bound stop (checked_add sum more) (λ m. checked_sum_from count m (drop (i + 1) xs)) e)

-- the four of a loop
pub ruleset sum_by_number = (sum_begins, sum_ends, sum_steps, sum_stops)
