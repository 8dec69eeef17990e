-- The answer of a call that tries one candidate.
use Rattle.std.specs.Prelude.{◌≡◌, ℕ, Bool, true, false, Option, Some, None, Result, Ok, Err}
use Rattle.bc_words.specs.Outcome.{Outcome, done, StopsExactly}
use Rattle.bc_words.specs.declared.stop.Stop.{Stop}

-- the candidate where it passes, and none where it does not
abbrev pub Passing : Result (Option ℕ) Stop → Outcome Bool → ℕ → Type 0
Passing (Ok (Some index)) passes candidate = (passes ≡ done true) × (index ≡ candidate)
Passing (Ok None) passes candidate = passes ≡ done false
Passing (Err stop) passes candidate = StopsExactly stop passes
