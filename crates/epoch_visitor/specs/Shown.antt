-- What becomes of a visitor that is shown states.
use Rattle.std.specs.Prelude.{List, [], ◌∷◌}
use Rattle.spec_state.specs.declared.plain.PlainState.{PlainState}

-- shown these states, one after another
unfoldable pub shown_all : {V : Type 0} → (V → PlainState → V) → V → List PlainState → V
shown_all shown visitor [] = visitor
shown_all shown visitor (state ∷ states) = shown_all shown (shown visitor state) states
