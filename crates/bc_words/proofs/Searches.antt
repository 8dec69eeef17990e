-- A search over indices, one index at a time. A loop over i below n names `least_index` or `first_index` in its
-- #[tactic(auto, using(..))] and has the invariant that what is found from i on is what is found from the beginning on.
use Rattle.std.proofs.Common.{◌≡◌, ℕ, zero, suc, ◌+◌, ◌-◌, ◌<◌, ◌≤◌, Bool, true, false, cond, Option, Some, None, ap, ◌∙◌, arith}
use Rattle.bc_words.specs.Outcome.{Outcome, done, bind, StopsExactly}
use Rattle.bc_words.specs.Searches.{least_from, first_from}
use Rattle.bc_words.specs.declared.stop.Stop.{Stop}
use Rattle.bc_words.proofs.Outcomes.{exactly_bound}

-- ---- a test that always says

least_opens : (test : ℕ → Bool) (n i : ℕ) → i < n → least_from test (n - i) i ≡ cond (test i) (Some i) (least_from test (n - (i + 1)) (i + 1))
unfolding least_from
least_opens test n i less = let e : n - i ≡ suc (n - (i + 1)) = omega arith in ap (λ k. least_from test k i) e

-- past the last index nothing is found
pub least_ends : (test : ℕ → Bool) (n i : ℕ) → n ≤ i → least_from test (n - i) i ≡ None
unfolding least_from
least_ends test n i over = let e : n - i ≡ zero = omega arith in ap (λ k. least_from test k i) e

-- an index that passes is found
pub least_passes : (test : ℕ → Bool) (n i : ℕ) → i < n → test i ≡ true → least_from test (n - i) i ≡ Some i
least_passes test n i less e = least_opens test n i less ∙ ap (λ b. cond b (Some i) (least_from test (n - (i + 1)) (i + 1))) e

-- an index that does not pass leaves those behind it
pub least_fails : (test : ℕ → Bool) (n i : ℕ) → i < n → test i ≡ false → least_from test (n - i) i ≡ least_from test (n - (i + 1)) (i + 1)
least_fails test n i less e = least_opens test n i less ∙ ap (λ b. cond b (Some i) (least_from test (n - (i + 1)) (i + 1))) e

-- ---- a test that may stop

abbrev decided : (ℕ → Outcome Bool) → ℕ → ℕ → Bool → Outcome (Option ℕ)
decided test n i passed = cond passed (done (Some i)) (first_from test (n - (i + 1)) (i + 1))

first_opens : (test : ℕ → Outcome Bool) (n i : ℕ) → i < n → first_from test (n - i) i ≡ bind (test i) (decided test n i)
unfolding first_from
first_opens test n i less = let e : n - i ≡ suc (n - (i + 1)) = omega arith in ap (λ k. first_from test k i) e

-- past the last index nothing is found
pub first_ends : (test : ℕ → Outcome Bool) (n i : ℕ) → n ≤ i → first_from test (n - i) i ≡ done None
unfolding first_from
first_ends test n i over = let e : n - i ≡ zero = omega arith in ap (λ k. first_from test k i) e

-- an index that passes is found
pub first_passes : (test : ℕ → Outcome Bool) (n i : ℕ) → i < n → test i ≡ done true → first_from test (n - i) i ≡ done (Some i)
first_passes test n i less e = first_opens test n i less ∙ ap (λ o. bind o (decided test n i)) e

-- an index that does not pass leaves those behind it
pub first_fails : (test : ℕ → Outcome Bool) (n i : ℕ) → i < n → test i ≡ done false → first_from test (n - i) i ≡ first_from test (n - (i + 1)) (i + 1)
first_fails test n i less e = first_opens test n i less ∙ ap (λ o. bind o (decided test n i)) e

-- a test that stops is the stop of the search
pub first_stops : (test : ℕ → Outcome Bool) (n i : ℕ) (stop : Stop) → i < n → StopsExactly stop (test i) → StopsExactly stop (first_from test (n - i) i)
first_stops test n i stop less e = rw (first_opens test n i less) (exactly_bound stop (test i) (decided test n i) e)

-- the three of a search whose test always says, and the four of one whose test may stop
pub ruleset least_index = (least_ends, least_passes, least_fails)

pub ruleset first_index = (first_ends, first_passes, first_fails, first_stops)
