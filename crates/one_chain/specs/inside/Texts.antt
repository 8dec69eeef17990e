-- What writing a text does, piece by piece.
use Rattle.std.specs.Prelude.{◌≡◌, ℕ, List, ◌++◌, Result}
use Rattle.bc_outside.specs.Told.{SinkTold}
use Rattle.bc_outside.specs.Calls.{HasCause, SinkKeeps, WritesAll}
use Rattle.bc_outside.specs.declared.trouble.Trouble.{Trouble}

-- The text was written, or a part of it from its front where a trouble came.
pub record WritesText (text : List ℕ) (result : Result (Unit {0}) Trouble) (took took_then : SinkTold) : Type 0 where
  pub writes : WritesAll text result took took_then
  pub causes : HasCause result took.faults took_then.faults
  pub keeps : SinkKeeps took took_then

-- The front of the text was written, and the rest is still to come.
pub record WritesFront (text rest : List ℕ) (took took_then : SinkTold) : Type 0 where
  pub front : List ℕ
  pub whole : text ≡ front ++ rest
  pub taken : took_then.taken ≡ took.taken ++ front
  pub keeps : SinkKeeps took took_then
