-- How the steps of a block stop: an assert of the published text is a check with its refusal, and reading a list past its
-- end is refused too. A step is lines of these, in the published order.
use Rattle.std.specs.Prelude.{Bool, List, [], ◌∷◌, if◌then◌else◌}
use Rattle.bc_words.specs.Outcome.{Outcome, done, refused, bind, ◌>>=◌}
use Rattle.bc_words.specs.declared.refusal.Refusal.{Refusal}
pub use Rattle.spec_state.specs.Items.{found, item_at}

-- an assert, with the refusal where it does not hold
abbrev pub check : Bool → Refusal → Outcome (Unit {0})
check holds why = if holds then done tt else refused why

infixl 10 ◌>>◌
-- a check and then the rest, for a do block
abbrev pub ◌>>◌ : {B : Type 0} → Outcome (Unit {0}) → Outcome B → Outcome B
checked >> rest = bind checked (λ _. rest)

-- one step for each item of a list, in order, each from the state that the step before it made
unfoldable pub each_of : {A S : Type 0} → (S → A → Outcome S) → S → List A → Outcome S
each_of step state [] = done state
each_of step state (item ∷ items) = do
  next ← step state item
  each_of step next items
