-- A watch over the validators: the genesis that they are compared with, and the states that it was shown.
use Rattle.std.specs.Prelude.{List, [], ◌∷◌, ◌++◌}
use Rattle.spec_state.specs.declared.plain.PlainState.{PlainState}

pub record PlainWatch : Type 0 where
  pub genesis : PlainState
  pub entered : List PlainState

-- shown a state more
unfoldable pub with_entered : PlainWatch → PlainState → PlainWatch
with_entered watch state = record watch { entered = watch.entered ++ state ∷ [] }
