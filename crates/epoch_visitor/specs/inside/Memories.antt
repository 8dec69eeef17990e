-- The states that a memory of no bytes stands for.
use Rattle.std.specs.Prelude.{List, [], ◌∷◌, ◌++◌}
use Rattle.spec_state.specs.declared.plain.PlainState.{PlainState}
use Rattle.epoch_visitor.specs.declared.seen.Memory.{Memory}
use Rattle.epoch_visitor.specs.declared.seen.Memory.TheVariants.{Empty, More'}

unfoldable pub remembered : Memory → List PlainState
remembered Empty = []
remembered (More' m before last) = remembered before ++ last.value ∷ []
