-- Searches: the least index that passes a test.
use Rattle.std.specs.Prelude.{ℕ, zero, suc, ◌+◌, Bool, Option, Some, None, if◌then◌else◌}
use Rattle.bc_words.specs.Outcome.{Outcome, done, ◌>>=◌}

-- the least of the indices from i on, count of them, that passes, or none
unfoldable pub least_from : (ℕ → Bool) → ℕ → ℕ → Option ℕ
least_from test zero i = None
least_from test (suc count) i = if test i then Some i else least_from test count (i + 1)

-- the same with a test that may stop: the first answer that is not "it does not pass"
unfoldable pub first_from : (ℕ → Outcome Bool) → ℕ → ℕ → Outcome (Option ℕ)
first_from test zero i = done None
first_from test (suc count) i = do
  passed ← test i
  if passed then done (Some i) else first_from test count (i + 1)
