-- What follows a search for the first candidate that passes, one candidate at a time.
use Rattle.std.proofs.Common.{◌≡◌, ℕ, ◌+◌, ◌-◌, ◌<◌, ◌≤◌, Bool, true, false, Option, Some, None, ap}
use Rattle.bc_words.specs.Outcome.{Outcome, done, bind, StopsExactly}
use Rattle.bc_words.specs.Searches.{first_from}
use Rattle.bc_words.specs.declared.stop.Stop.{Stop}
use Rattle.bc_words.proofs.Outcomes.{exactly_bound}
use Rattle.bc_words.proofs.Searches.{first_ends, first_passes, first_fails, first_stops}

module _ {A : Type 0} (test : ℕ → Outcome Bool) (next : Option ℕ → Outcome A) (n i : ℕ) where
  -- past the last candidate none is found
  pub found_ends : n ≤ i → bind (first_from test (n - i) i) next ≡ next None
  found_ends over = ap (λ o. bind o next) (first_ends test n i over)

  -- a candidate that passes is found
  pub found_passes : i < n → test i ≡ done true → bind (first_from test (n - i) i) next ≡ next (Some i)
  found_passes less e = ap (λ o. bind o next) (first_passes test n i less e)

  -- one that does not pass leaves those behind it
  pub found_fails : i < n → test i ≡ done false → bind (first_from test (n - i) i) next ≡ bind (first_from test (n - (i + 1)) (i + 1)) next
  found_fails less e = ap (λ o. bind o next) (first_fails test n i less e)

  -- and a stop ends the search
  pub found_stops : (stop : Stop) → i < n → StopsExactly stop (test i) → StopsExactly stop (bind (first_from test (n - i) i) next)
  found_stops stop less e = exactly_bound stop (first_from test (n - i) i) next (first_stops test n i stop less e)
