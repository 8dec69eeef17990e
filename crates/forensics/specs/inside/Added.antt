-- The blocks that a memory of no bytes stands for.
use Rattle.std.specs.Prelude.{List, [], ◌∷◌}
use Rattle.spec_forensics.specs.Histories.{AcceptedBlock}
use Rattle.forensics.specs.declared.added.Memory.{Memory}
use Rattle.forensics.specs.declared.added.Memory.TheVariants.{Empty, More'}

unfoldable pub remembered : Memory → List AcceptedBlock
remembered Empty = []
remembered (More' row before event root block state entered) = record { event = event.value; root = root.value; block = block.value; state = state.value; entered = entered.value } ∷ remembered before
