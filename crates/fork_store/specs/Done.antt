-- Outcomes that are values.
use Rattle.std.specs.Prelude.{◌≡◌}
use Rattle.bc_words.specs.Outcome.{Outcome, done}

-- an outcome is a value: nothing is refused, and no limit is met
pub record IsDone {A : Type 0} (outcome : Outcome A) : Type 0 where
  pub value : A
  pub is : outcome ≡ done value
