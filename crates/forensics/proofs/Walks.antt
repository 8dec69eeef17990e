-- How the plain program walks over all pairs.
use Rattle.std.proofs.Common.{◌≡◌, ◌∙◌, ℕ, zero, suc, ◌+◌, ◌<◌, ◌≤◌, Bool, true, false, cond, List, [], ◌∷◌, length, get_or, take, drop, Some, None, refl, sym, ap, arith, add-one, drop-cons}
use Rattle.std.specs.List.{find}
use Rattle.std.proofs.Math.Seq.{take-suc}
use Rattle.spec_forensics.specs.FirstPair.{pair_or, first_pair}

find_opens : (test : ℕ → Bool) (xs : List ℕ) (i : ℕ) → i < length xs → find test (drop i xs) ≡ cond (test (get_or xs i 0)) (Some (get_or xs i 0)) (find test (drop (i + 1) xs))
find_opens test xs i inside = rw (add-one, drop-cons xs i 0) refl

module _ (test : ℕ → Bool) (xs : List ℕ) (i : ℕ) (inside : i < length xs) where
  pub find_here : test (get_or xs i 0) ≡ true → find test (drop i xs) ≡ Some (get_or xs i 0)
  find_here is = find_opens test xs i inside ∙ ap (λ b. cond b (Some (get_or xs i 0)) (find test (drop (i + 1) xs))) is

  pub find_next : test (get_or xs i 0) ≡ false → find test (drop i xs) ≡ find test (drop (i + 1) xs)
  find_next fails = find_opens test xs i inside ∙ ap (λ b. cond b (Some (get_or xs i 0)) (find test (drop (i + 1) xs))) fails

pub find_ends : (test : ℕ → Bool) (xs : List ℕ) (i : ℕ) → length xs ≤ i → find test (drop i xs) ≡ None
find_ends test [] zero over = refl
find_ends test [] (suc i) over = refl
find_ends test (x ∷ xs) zero over = absurd (omega arith)
find_ends test (x ∷ xs) (suc i) over = find_ends test xs i (omega arith)

pub ruleset finding = (find_here, find_next, find_ends)

pair_opens : (test : ℕ → ℕ → Bool) (xs : List ℕ) (i : ℕ) → i < length xs
    → first_pair test (take i xs) (drop i xs) ≡ pair_or (find (λ e. test e (get_or xs i 0)) (take i xs)) (get_or xs i 0) (first_pair test (take (suc i) xs) (drop (suc i) xs))
unfolding first_pair
pair_opens test xs i inside = rw (drop-cons xs i 0) (ap (λ ys. pair_or (find (λ e. test e (get_or xs i 0)) (take i xs)) (get_or xs i 0) (first_pair test ys (drop (suc i) xs))) (sym (take-suc xs i 0 inside)))

module _ (test : ℕ → ℕ → Bool) (xs : List ℕ) (i : ℕ) (inside : i < length xs) where
  pub pair_here : (earlier : ℕ) → find (λ e. test e (get_or xs i 0)) (take i xs) ≡ Some earlier → first_pair test (take i xs) (drop i xs) ≡ Some (earlier, get_or xs i 0)
  unfolding pair_or
  pair_here earlier is = pair_opens test xs i inside ∙ ap (λ found. pair_or found (get_or xs i 0) (first_pair test (take (suc i) xs) (drop (suc i) xs))) is

  pub pair_next : find (λ e. test e (get_or xs i 0)) (take i xs) ≡ None → first_pair test (take i xs) (drop i xs) ≡ first_pair test (take (i + 1) xs) (drop (i + 1) xs)
  unfolding pair_or
  pair_next is = rw (add-one) (pair_opens test xs i inside ∙ ap (λ found. pair_or found (get_or xs i 0) (first_pair test (take (suc i) xs) (drop (suc i) xs))) is)

pub pair_ends : (test : ℕ → ℕ → Bool) (xs : List ℕ) (i : ℕ) → length xs ≤ i → first_pair test (take i xs) (drop i xs) ≡ None
unfolding first_pair
pair_ends test xs i over = rw (drop_all xs i over) refl
  where
    drop_all : (xs : List ℕ) (i : ℕ) → length xs ≤ i → drop i xs ≡ []
    drop_all [] zero over = refl
    drop_all [] (suc i) over = refl
    drop_all (x ∷ xs) zero over = absurd (omega arith)
    drop_all (x ∷ xs) (suc i) over = drop_all xs i (omega arith)

pub ruleset pairing = (pair_here, pair_next, pair_ends)
