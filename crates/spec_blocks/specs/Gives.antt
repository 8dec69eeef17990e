-- An outcome that is a value of which something holds: what a law says of a step that nothing refuses.
use Rattle.std.specs.Prelude.{◌≡◌}
use Rattle.bc_words.specs.Outcome.{Outcome, done}

-- the outcome is a value of which P holds
pub record Gives {A : Type 0} (P : A → Type 0) (outcome : Outcome A) : Type 0 where
  pub value : A
  pub is : outcome ≡ done value
  pub holds : P value
